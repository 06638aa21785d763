-- What reading tells beside its answer: behind the prefix 1 the remainder of the inverted block, which is 0 for a good one; so it is not
-- 0 exactly where the block is refused with 4.
-- Assumes nothing.
use mathlib.Core.Bool.{Bool, true, false}
use mathlib.Core.List.{List}
use mathlib.Core.Path.{◌≡◌, refl, sym, ap, ◌∙◌}
use Prim.Native.Nat.{ℕ, ◌<◌}
use native.Mathlib.Omega.{arith}
use borrow.Author.Tests.{eqb-true, eqb-false, ne_eqb}
use lib.Dec.{eqb}
use lib.ListN.{length, drop}
use Rattle.refusal.specs.declared.Refusal.TheVariants.{NotABit, WrongLength, WrongPrefix, WrongCheckWord, NumberTooWide}
use Rattle.block.specs.Bits.{Bits, are_bits, bits_of, value}
use Rattle.block.specs.Block.{prefix_in, code_in, word_in, check_in, body_in, check_of, inverted}
use Rattle.block.specs.Division.{remainder}
use Rattle.block.specs.Packed.{fits, read_packed}
use Rattle.block.specs.Read.{carried, must, read_of, remainder_read, ToldWith4}
use Rattle.block.proofs.CheckWord.{none_check}
use Rattle.block.proofs.Inverted.{without}
use Rattle.block.proofs.Reading.{wrong_check_word, a_block}
use Rattle.block.proofs.Strings.{are_bits_lem, bits_are, bits_drop, rem_lt}

module _ (s : List ℕ) where
  -- fifty bits behind the prefix 1, good or not
  pub told_is : length s ≡ 50 → Bits s → prefix_in s ≡ 1 → remainder_read (read_of s) ≡ remainder (drop 1 s)
  told_is l h p = by (eqb (remainder (drop 1 s)) 0) refl
    where
      by : (t : Bool) → eqb (remainder (drop 1 s)) 0 ≡ t → remainder_read (read_of s) ≡ remainder (drop 1 s)
      by true e = let z = eqb-true (remainder (drop 1 s)) 0 e in sym (ap remainder_read (a_block s l (bits_are s h) p z)) ∙ sym z
      by false e = sym (ap remainder_read (wrong_check_word s l (bits_are s h) p (eqb-false (remainder (drop 1 s)) 0 e)))

  module _ (l : eqb (length s) 50 ≡ true) (a : are_bits s ≡ true) (p : eqb (prefix_in s) 1 ≡ true) where
    behind : remainder (inverted s) ≡ remainder (drop 1 s)
    behind = without s (eqb-true (prefix_in s) 1 p)

    left_lt : remainder (inverted s) < 8192
    left_lt = rw behind (rem_lt (drop 1 s) 0 (omega arith) (bits_drop 1 s (are_bits_lem s a)))

    some : eqb (value (check_in s)) (check_of (body_in s)) ≡ false → remainder (inverted s) ≡ 0 → ⊥
    some c z = eqb-false (value (check_in s)) (check_of (body_in s)) c (none_check s (eqb-true (length s) 50 l) (are_bits_lem s a) (sym behind ∙ z))

  pub told_with_4 : ToldWith4 (read_of s)
  unfolding read_of
  told_with_4 =
      by (eqb (length s) 50) (are_bits s) (eqb (prefix_in s) 1) (eqb (value (check_in s)) (check_of (body_in s))) refl refl refl refl
    where
      by : (size bits prefix check : Bool) → eqb (length s) 50 ≡ size → are_bits s ≡ bits → eqb (prefix_in s) 1 ≡ prefix
          → eqb (value (check_in s)) (check_of (body_in s)) ≡ check
          → ToldWith4
          (must size WrongLength 0
          (must bits NotABit 0 (must prefix WrongPrefix 0 (must check WrongCheckWord (remainder (inverted s)) (carried (value (code_in s)) (value (word_in s)))))))
      by false bits prefix check l a p c = (refl, omega arith)
      by true false prefix check l a p c = (refl, omega arith)
      by true true false check l a p c = (refl, omega arith)
      by true true true false l a p c = (ne_eqb (remainder (inverted s)) 0 (some l a p c), left_lt l a p)
      by true true true true l a p c = (refl, omega arith)

pub packed_told_with_4 : (n : ℕ) → ToldWith4 (read_packed n)
unfolding read_packed
packed_told_with_4 n = by (fits n)
  where
    by : (t : Bool) → ToldWith4 (must t NumberTooWide 0 (read_of (bits_of 50 n)))
    by true = told_with_4 (bits_of 50 n)
    by false = (refl, omega arith)
