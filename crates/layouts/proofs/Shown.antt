-- The layouts are tied: each field is a law of `block` or of `receiver`, or follows from two of them.
-- Assumes nothing.
use mathlib.Core.Bool.{Bool, true, false}
use mathlib.Core.List.{List}
use mathlib.Core.Path.{◌≡◌, refl, sym, ap, ap₂, ◌∙◌}
use Prim.Native.Nat.{ℕ, ◌^◌, ◌<◌}
use borrow.Author.Tests.{eq-eqb, lt-ltb}
use lib.Dec.{ltb}
use lib.ListN.{length}
use Rattle.std.proofs.Common.{Ok, Err}
use Rattle.refusal.specs.declared.Refusal.{Refusal}
use Rattle.block.specs.Block.{block_of}
use Rattle.block.specs.Bits.{bits_of}
use Rattle.block.specs.Read.{read_of}
use Rattle.block.specs.Write.{write_of, written_of}
use Rattle.block.specs.Choose.{between, choice_of}
use Rattle.block.specs.Packed.{read_packed, write_packed, pack_of, unpacked_of}
use Rattle.block.proofs.Packing.{Packs, packs, packs_not, packs_bits, fifty_lt}
use Rattle.block.proofs.Reading.{packed_reads}
use Rattle.block.proofs.RoundTrip.{written_good}
use Rattle.block.proofs.Strings.{bits_of_val, bits_bits_of, length_bits_of, val_bits_of}
use Rattle.receiver.proofs.Layouts as states
use Rattle.layouts.specs.Layouts.{Layouts}

-- ---- the block

module _ (held : List ℕ) (l : length held ≡ 50) (n : ℕ) (h : n < 2 ^ 50) where
  unpacked_is : unpacked_of held n ≡ bits_of 50 n
  unpacked_is = rw (eq-eqb (length held) 50 l, lt-ltb n (2 ^ 50) h)

packed_back : (s held : List ℕ) (n : ℕ) → length held ≡ 50 → pack_of s ≡ Ok n → (n < 2 ^ 50) × (unpacked_of held n ≡ s)
packed_back s held n l e =
    let p : Packs s n = packs s n e in
    let h : n < 2 ^ 50 = rw p.number at (fifty_lt s p.size p.bits) in
    (h, unpacked_is held l n h ∙ ap (bits_of 50) (sym p.number) ∙ bits_of_val 50 s p.bits p.size)

unpacked_back : (held : List ℕ) (n : ℕ) → length held ≡ 50 → n < 2 ^ 50 → pack_of (unpacked_of held n) ≡ Ok n
unpacked_back held n l h =
    ap pack_of (unpacked_is held l n h) ∙ packs_bits (bits_of 50 n) (length_bits_of 50 n) (bits_bits_of 50 n) ∙ ap Ok (val_bits_of 50 n h)

reads : (s : List ℕ) (n : ℕ) → pack_of s ≡ Ok n → read_packed n ≡ read_of s
reads s n e = let p : Packs s n = packs s n e in ap read_packed (sym p.number) ∙ packed_reads s p.size p.bits

-- a code of 0 to 15 is written, any other refused
writes : (held : List ℕ) (code word : ℕ) → length held ≡ 50 → write_of 50 code ≡ Ok tt → write_packed code word ≡ pack_of (written_of held code word)
writes held code word l e = by (ltb code 16) refl
  where
    by : (t : Bool) → ltb code 16 ≡ t → write_packed code word ≡ pack_of (written_of held code word)
    by true k = let g = written_good code word in rw (k, eq-eqb (length held) 50 l) (sym (packs_bits (block_of code word) g.size g.bits))
    by false k = let no = rw k at e in cc

writes_not : (code word : ℕ) (why : Refusal) → write_of 50 code ≡ Err why → write_packed code word ≡ Err why
writes_not code word why e = by (ltb code 16) refl
  where
    by : (t : Bool) → ltb code 16 ≡ t → write_packed code word ≡ Err why
    by true k = let no = rw k at e in cc
    by false k = let same = rw k at e in rw k cc

pub layouts : Layouts
unfolding choice_of
layouts =
    record {
      packs = packed_back;
      unpacks = unpacked_back;
      refuses = packs_not;
      read = reads;
      write = writes;
      writes_not = writes_not;
      choose = λ s t n m e d. ap₂ between (reads s n e) (reads t m d);
      there = λ edition s l e. (
        states.packed_proper_lem edition s (record { places = l; proper = e }),
        states.there_and_back s (states.proper_fifty edition s (record { places = l; proper = e })),
      );
      back = states.back_and_there;
      proper = states.same_test;
      above = states.proper_small;
      fresh = states.fresh_packed_lem;
      fed = λ edition p b h. states.fed_unpacked edition p h b;
      ran = λ edition p bs h. states.run_unpacked edition p h bs;
      fed_there = λ edition s b l e. states.fed_packed_lem edition s b (states.proper_fifty edition s (record { places = l; proper = e }));
      ran_there = λ edition s bs l e. states.run_packed_lem edition s bs (states.proper_fifty edition s (record { places = l; proper = e }));
    }
