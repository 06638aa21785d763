-- The two layouts of a block and of a receiver's state: every call on the number gives the answer of the call on fifty bytes
-- (02, No. 6). The definitions tied here are those that the contracts of the calls cite.
-- Assumes nothing.
use Rattle.std.specs.Prelude.{true, List, ◌≡◌, ℕ, ◌^◌, ◌<◌, length, Ok, Err}
use Rattle.refusal.specs.declared.Refusal.{Refusal}
use Rattle.block.specs.Read.{refused, read_of}
use Rattle.block.specs.Write.{write_of, written_of}
use Rattle.block.specs.Choose.{choice_of}
use Rattle.block.specs.Packed.{read_packed, write_packed, choose_packed, pack_of, unpacked_of}
use Rattle.record.specs.declared.Edition.{Edition}
use Rattle.receiver.specs.declared.PackedState.{PackedState}
use Rattle.receiver.specs.declared.State.{State}
use Rattle.receiver.specs.States.{fresh_of, proper_of}
use Rattle.receiver.specs.Runs.{run_of, fed_of}
use Rattle.receiver.specs.Packed.{packed, unpacked, fresh_packed, packed_proper, packed_ran, run_packed, fed_packed}

pub record Layouts : Type 0 where
  -- ---- the block. What packs is fifty bits, and unpacking gives them back; what does not is refused as reading refuses it
  pub packs : (s held : List ℕ) (n : ℕ) → length held ≡ 50 → pack_of s ≡ Ok n → (n < 2 ^ 50) × (unpacked_of held n ≡ s)
  pub unpacks : (held : List ℕ) (n : ℕ) → length held ≡ 50 → n < 2 ^ 50 → pack_of (unpacked_of held n) ≡ Ok n
  pub refuses : (s : List ℕ) (why : Refusal) → pack_of s ≡ Err why → read_of s ≡ refused why 0
  -- reading the number of a slice is reading the slice; an answer has the remainder that it tells in it
  pub read : (s : List ℕ) (n : ℕ) → pack_of s ≡ Ok n → read_packed n ≡ read_of s
  -- writing the number is writing fifty places and packing them, or it is refused alike
  pub write : (held : List ℕ) (code word : ℕ) → length held ≡ 50 → write_of 50 code ≡ Ok tt
      → write_packed code word ≡ pack_of (written_of held code word)
  pub writes_not : (code word : ℕ) (why : Refusal) → write_of 50 code ≡ Err why → write_packed code word ≡ Err why
  -- choosing between the numbers of two slices is choosing between the slices
  pub choose : (s t : List ℕ) (n m : ℕ) → pack_of s ≡ Ok n → pack_of t ≡ Ok m → choose_packed n m ≡ choice_of s t
  -- ---- the state. Packing a proper state loses nothing, nor does unpacking one without a bit above place 49
  pub there : (edition : Edition) (s : State) → length s.bits ≡ 50 → proper_of edition s ≡ true → (packed_proper edition (packed s) ≡ true) × (unpacked (packed s) ≡ s)
  pub back : (p : PackedState) → p.bits < 2 ^ 50 → packed (unpacked p) ≡ p
  -- proper is the same test; a bit above place 49 is improper
  pub proper : (edition : Edition) (p : PackedState) → p.bits < 2 ^ 50 → packed_proper edition p ≡ proper_of edition (unpacked p)
  pub above : (edition : Edition) (p : PackedState) → packed_proper edition p ≡ true → p.bits < 2 ^ 50
  -- the fresh state, one bit and a run, refused or not
  pub fresh : fresh_packed ≡ packed fresh_of
  pub fed : (edition : Edition) (p : PackedState) (b : ℕ) → p.bits < 2 ^ 50 → fed_packed edition p b ≡ packed_ran (fed_of edition (unpacked p) b)
  pub ran : (edition : Edition) (p : PackedState) (bs : List ℕ) → p.bits < 2 ^ 50 → run_packed edition p bs ≡ packed_ran (run_of edition (unpacked p) bs)
  -- so those of a proper state, packed, are its own, packed
  pub fed_there : (edition : Edition) (s : State) (b : ℕ) → length s.bits ≡ 50 → proper_of edition s ≡ true → fed_packed edition (packed s) b ≡ packed_ran (fed_of edition s b)
  pub ran_there : (edition : Edition) (s : State) (bs : List ℕ) → length s.bits ≡ 50 → proper_of edition s ≡ true → run_packed edition (packed s) bs ≡ packed_ran (run_of edition s bs)
