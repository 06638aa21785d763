-- Fifty bits that are not a good block are refused: with 3 where they begin with a 0, with 4 otherwise.
-- Assumes nothing.
use mathlib.Core.Bool.{Bool, true, false}
use mathlib.Core.List.{List}
use mathlib.Core.Path.{◌≡◌, refl, sym, ap}
use Prim.Native.Nat.{ℕ}
use native.Mathlib.Omega.{arith}
use lib.Dec.{eqb}
use lib.ListN.{length}
use Rattle.block.specs.Bits.{Bits}
use Rattle.block.specs.Block.{Good, prefix_in}
use Rattle.block.specs.Read.{read_of, refusal_in}
use Rattle.block.proofs.Xor.{on_bit}
use Rattle.block.proofs.Strings.{bits_are, bits_at}
use Rattle.block.proofs.CheckWord.{none_check}
use Rattle.block.proofs.Reading.{wrong_prefix, wrong_check_word}
use Rattle.detection.specs.Damage.{refused_with}
use Rattle.detection.specs.Slips.{IsRefused}

-- so it is never taken for a block, whose number is 0
pub refused_not_zero : (prefixWrong : Bool) → 0 ≡ refused_with prefixWrong → ⊥
refused_not_zero true e = omega arith
refused_not_zero false e = omega arith

pub refused : (w : List ℕ) → length w ≡ 50 → Bits w → (Good w → ⊥) → IsRefused w
refused w l h f =
    on_bit (λ p. prefix_in w ≡ p → refusal_in (read_of w) ≡ refused_with (eqb p 0))
    (λ p. ap refusal_in (sym (wrong_prefix w l (bits_are w h) (λ e. omega arith))))
    (λ p. ap refusal_in (sym (wrong_check_word w l (bits_are w h) p (λ z. f (record { size = l; bits = h; prefix = p; check = none_check w l h z })))))
    (prefix_in w) (bits_at w 0 h) refl
