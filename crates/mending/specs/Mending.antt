-- Mending a logged block where it stands: tests 2, 1, then 15, 16 (02, No. 8). A relation: it says which change makes the block good and
-- that no other does, and not how it is found.
-- Assumes nothing.
use Rattle.std.specs.Prelude.{List, ◌≡◌, ℕ, Result, Ok, Err, length}
use Rattle.refusal.specs.declared.Refusal.{Refusal}
use Rattle.refusal.specs.declared.Refusal.TheVariants.{NoSuchChange, SeveralChanges}
use Rattle.block.specs.Bits.{Bits, xors}
use Rattle.block.specs.Block.{Good}
use Rattle.block.specs.Packed.{pack_of}
-- of an answer the refusal as the paper's number
pub use Rattle.block.specs.Write.{refusal_of}
use Rattle.mending.specs.Changes.{Makes, First, six_from}
use Rattle.mending.specs.declared.Change.{Change}

-- a block is handed back, and this is the change
abbrev pub tells : ℕ → ℕ → Result Change Refusal
tells place pattern = Ok (record { place = place; pattern = pattern })

-- what becomes of fifty bits that are no good block: the answer, and what the places then hold. Where one change makes them good they
-- are changed so, and the answer tells its first place and the six places from there
pub data MendsBad (s : List ℕ) : Result Change Refusal → List ℕ → Type 0 where
  one : (e : List ℕ) → Makes s e → ((d : List ℕ) → Makes s d → d ≡ e) → (k : ℕ) → First e k → MendsBad s (tells k (six_from k e)) (xors s e)
  none : ((e : List ℕ) → Makes s e → ⊥) → MendsBad s (Err NoSuchChange) s
  several : (d e : List ℕ) → Makes s d → Makes s e → (d ≡ e → ⊥) → MendsBad s (Err SeveralChanges) s

-- what becomes of any bytes: those that are not fifty proper bits are refused as packing refuses them, with 2 and then 1, and a good block
-- is handed back, place and pattern 0
pub data Mends (s : List ℕ) : Result Change Refusal → List ℕ → Type 0 where
  refused : (why : Refusal) → pack_of s ≡ Err why → Mends s (Err why) s
  good : Good s → Mends s (tells 0 0) s
  bad : length s ≡ 50 → Bits s → (Good s → ⊥) → {answer : Result Change Refusal} {after : List ℕ} → MendsBad s answer after → Mends s answer after

-- place and pattern of an answer, 0 where refused
abbrev pub place_in : Result Change Refusal → ℕ
place_in (Ok change) = change.place
place_in (Err refusal) = 0

abbrev pub pattern_in : Result Change Refusal → ℕ
pattern_in (Ok change) = change.pattern
pattern_in (Err refusal) = 0
