-- The check word is right exactly where the division of all bits behind the prefix leaves nothing, since that division is
-- the sum of the check word that should be there and the one that is.
-- Assumes nothing.
use mathlib.Core.Path.{◌≡◌, sym, ap, ap₂, ◌∙◌}
use mathlib.Core.List.{List, ◌++◌}
use Prim.Native.Nat.{ℕ, ◌<◌}
use native.Mathlib.Omega.{arith}
use lib.Bits.{bit_xor, xor_self}
use lib.ListN.{length, drop, length-drop}
use Rattle.block.specs.Bits.{Bits, value, zeros}
use Rattle.block.specs.Division.{remainder_from, remainder}
use Rattle.block.specs.Block.{Good, body_in, check_in, check_of}
use Rattle.block.proofs.Xor.{xor_eq}
use Rattle.block.proofs.Strings.{parts, bits_append, bits_zeros, bits_take, bits_drop, rem_append, rem_lt, rem_val, rem_split}

pub check_lt : (body : List ℕ) → Bits body → check_of body < 8192
check_lt body h = rem_lt (body ++ zeros 13) 0 (omega arith) (bits_append body (zeros 13) h (bits_zeros 13))

module _ (s : List ℕ) (e : length s ≡ 50) (h : Bits s) where
  pub check_rem : remainder (drop 1 s) ≡ bit_xor (check_of (body_in s)) (value (check_in s))
  check_rem =
      let hk : Bits (check_in s) = bits_drop 37 s h in
      let l : length (check_in s) ≡ 13 = omega (arith, length-drop 37 s) in
      let r : remainder (body_in s) < 8192 = rem_lt (body_in s) 0 (omega arith) (bits_take 36 (drop 1 s) (bits_drop 1 s h)) in
      ap remainder (parts s 1 36) ∙ rem_append (body_in s) (check_in s) 0 ∙ rem_split (check_in s) (remainder (body_in s)) r hk
      ∙ ap₂ bit_xor (ap (λ (n : ℕ). remainder_from (remainder (body_in s)) (zeros n)) l ∙ sym (rem_append (body_in s) (zeros 13) 0))
      (rem_val (check_in s) hk (omega arith))

  pub check_none : value (check_in s) ≡ check_of (body_in s) → remainder (drop 1 s) ≡ 0
  check_none w = check_rem ∙ ap (bit_xor (check_of (body_in s))) w ∙ xor_self (check_of (body_in s))

  pub none_check : remainder (drop 1 s) ≡ 0 → value (check_in s) ≡ check_of (body_in s)
  none_check z = sym (xor_eq (check_of (body_in s)) (value (check_in s)) (sym check_rem ∙ z))

pub good_rem : (s : List ℕ) → Good s → remainder (drop 1 s) ≡ 0
good_rem s g = check_none s g.size g.bits g.check
