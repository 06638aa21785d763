-- What the first bit of a full window puts into the register, and so what the register says of the window.
-- Assumes nothing.
use mathlib.Core.Bool.{Bool, true, false}
use mathlib.Core.List.{◌∷◌}
use mathlib.Core.Path.{◌≡◌, refl, sym, ap, ◌∙◌}
use Prim.Native.Nat.{ℕ, ◌+◌, ◌*◌, ◌/◌, ◌^◌, ◌<◌, ◌≤◌}
use native.Mathlib.Omega.{arith}
use borrow.Author.Tests.{le-leb, lt-leb, eq-eqb, ne_eqb, ltb-true, ltb-false}
use lib.Dec.{ltb}
use lib.Bits.{bit_xor, xor_self}
use Rattle.block.specs.Bits.{bits_of, zeros}
use Rattle.block.specs.Division.{remainder_from, remainder}
use Rattle.block.specs.Packed.{read_by}
use Rattle.block.specs.Read.{read_of}
use Rattle.block.proofs.Reading.{number_reads}
use Rattle.block.proofs.Stream.{in_front, off_the_front}
use Rattle.block.proofs.Strings.{thirteen}
use Rattle.block.proofs.Xor.{xor_eq}
use Rattle.locking.specs.Modes.{is_good}
use Rattle.receiver.specs.declared.windows.Window.{Window}

-- what x^49 leaves
abbrev pub first : ℕ
first = 0x1283

first_is : first ≡ remainder (1 ∷ zeros 49)
unfolding remainder_from
first_is = refl

-- a full window is a number of fifty bits
pub fifty : (w : Window) → w.waiting ≡ 50 → (w.bits < 2 ^ 50) × (w.register ≡ remainder (bits_of 50 w.bits))
fifty w e = (rw e at w.few, rw e at w.turned)

module _ (n r : ℕ) (h : n < 2 ^ 50) (e : r ≡ remainder (bits_of 50 n)) where
  pub behind_0 : n < 2 ^ 49 → r ≡ remainder (bits_of 49 n)
  behind_0 k = e ∙ in_front 1 49 n k

  pub behind_1 : 2 ^ 49 ≤ n → bit_xor r first ≡ remainder (bits_of 49 n)
  behind_1 k = rw (e, first_is) (off_the_front 49 n (omega arith))

  -- a good block starts with 1, and the register holds what that leaves
  low : n < 2 ^ 49 → is_good (read_of (bits_of 50 n)) ≡ false
  unfolding read_by
  low k = rw (← number_reads n h, lt-leb (2 ^ 49) n k)

  other : (r ≡ first → ⊥) → 2 ^ 49 ≤ n → is_good (read_of (bits_of 50 n)) ≡ false
  unfolding read_by
  other d k = rw (← number_reads n h, le-leb (2 ^ 49) n k, ne_eqb (remainder (bits_of 49 n)) 0 (λ z. d (xor_eq r first (behind_1 k ∙ z))))

  same : r ≡ first → 2 ^ 49 ≤ n → is_good (read_of (bits_of 50 n)) ≡ true
  unfolding read_by
  same d k =
      rw (← number_reads n h, le-leb (2 ^ 49) n k, eq-eqb (remainder (bits_of 49 n)) 0 (sym (behind_1 k) ∙ ap (λ (q : ℕ). bit_xor q first) d ∙ xor_self first))

  -- so the first bit above the register tells it
  pub is_good_lem : n / 2 ^ 49 * 8192 + r ≡ 8192 + first → is_good (read_of (bits_of 50 n)) ≡ true
  is_good_lem d = let t = thirteen 50 n e in same (omega arith) (omega arith)

  pub is_not : (n / 2 ^ 49 * 8192 + r ≡ 8192 + first → ⊥) → is_good (read_of (bits_of 50 n)) ≡ false
  is_not d = by (ltb n (2 ^ 49)) refl
    where
      by : (t : Bool) → ltb n (2 ^ 49) ≡ t → is_good (read_of (bits_of 50 n)) ≡ false
      by true k = low (ltb-true n (2 ^ 49) k)
      by false k = let g : 2 ^ 49 ≤ n = ltb-false n (2 ^ 49) k in other (λ z. d (omega arith)) g
