-- `power_of` meets its contract: the checker computes the fifteen answers, and the powers that they name.
-- Assumes nothing.
use mathlib.Core.List.{[], ◌∷◌}
use mathlib.Core.Path.{◌≡◌}
use Prim.Native.Nat.{ℕ, zero, suc, ◌<◌}
use native.Mathlib.Omega.{arith}
use lib.Dec.{eqb, ltb, eqb→eq, ltb→lt}
use lib.ListN.{get_or}
use Rattle.block.proofs.Below.{at_below}
use Rattle.field16.specs.Words.{a_to}
use Rattle.field16.specs.Field.{power}
use Rattle.wrong_symbols.proofs.mending.power_of.Goals as goal

abbrev result : ℕ → ℕ
result x = get_or (0 ∷ 0 ∷ 1 ∷ 4 ∷ 2 ∷ 8 ∷ 5 ∷ 10 ∷ 3 ∷ 14 ∷ 9 ∷ 7 ∷ 6 ∷ 13 ∷ 11 ∷ 12 ∷ []) x 0

answers : (x : ℕ) → 0 < x → x < 16 → (result x < 15) × (a_to (result x) ≡ x)
unfolding power
answers zero p h = absurd (omega arith)
answers (suc x) p h = (
  ltb→lt (result (suc x)) 15 (at_below 15 (λ x. ltb (result (suc x)) 15) tt x (omega arith)),
  eqb→eq (a_to (result (suc x))) (suc x) (at_below 15 (λ x. eqb (a_to (result (suc x))) (suc x)) tt x (omega arith)),
)

pub returns : goal.returns
returns c = answers c.args.x c.requires.0 c.requires.1
