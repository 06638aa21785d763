-- `power_of_x` meets its contract, from the half's power and its square.
-- Assumes nothing.
use mathlib.Core.Path.{◌≡◌, sym, ap, ap₂, ◌∙◌}
use Prim.Native.Nat.{ℕ, ◌*◌, ◌/◌, ◌%◌, ◌^◌, ◌<◌}
use native.Mathlib.Nat.{one-mul}
use native.Mathlib.Omega.{arith}
use lib.Pow.{shl_exact}
use Rattle.block.specs.Division.{step_bit}
use Rattle.block.proofs.Linear.{stepped_lt}
use Rattle.joining.specs.Joining.{times, power_of_x}
use Rattle.joining.proofs.Products.{times_lt}
use Rattle.joining.proofs.Powers.{is_small}
use Rattle.joining.proofs.Halving.{power_even, power_odd, power_small}
use Rattle.joining.proofs.+power_of_x.Goals as goal

-- a 1 in the place of the power
placed : (n : ℕ) → n < 13 → 1 * 2 ^ n % 2 ^ 32 ≡ power_of_x n
placed n h = shl_exact {a = 1} 1 n 32 (omega arith) (omega arith) ∙ one-mul (2 ^ n) ∙ sym (power_small n h)

-- from the half's power and its square
module _ (n : ℕ) {half square : ℕ} (e : half ≡ power_of_x (n / 2)) (d : square ≡ times half half) where
  squared : square ≡ times (power_of_x (n / 2)) (power_of_x (n / 2))
  squared = d ∙ ap₂ times e e

  squared_lt : square < 8192
  squared_lt = rw d (times_lt half half (is_small (n / 2) e))

  even : n % 2 ≡ 0 → square ≡ power_of_x n
  even h = squared ∙ sym (power_even n h)

  odd : (n % 2 ≡ 0 → ⊥) → step_bit square 0 ≡ power_of_x n
  odd h = ap (λ (r : ℕ). step_bit r 0) squared ∙ sym (power_odd n h)

pub returns-then-length-lt13 : goal.returns-then-length-lt13
returns-then-length-lt13 t c = placed c.args.length (omega arith)

pub times-square-requires : goal.times-square-requires
times-square-requires t c = let small = is_small (c.args.length / 2) c.power_of_x-half.ensures in (small, small)

pub returns-then-length-eq0 : goal.returns-then-length-eq0
returns-then-length-eq0 t c = even c.args.length c.power_of_x-half.ensures c.times-square.ensures c.if-length-eq0.true

pub overflow_cast-result : goal.overflow_cast-result
overflow_cast-result t c =
    let small = squared_lt c.args.length c.power_of_x-half.ensures c.times-square.ensures in
    omega (arith, stepped_lt c.turn.ensures small (omega arith))

pub returns : goal.returns
returns t c =
    c.turn.ensures ∙ odd c.args.length c.power_of_x-half.ensures c.times-square.ensures c.if-length-eq0.false
