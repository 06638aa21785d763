-- `times` meets its contract. The loop's invariant: what is summed, and the product of what is left of the first with the second moved
-- up, make the product.
-- Assumes nothing.
use mathlib.Core.Path.{◌≡◌, sym, ap, ◌∙◌}
use Prim.Native.Nat.{ℕ, ◌*◌, ◌/◌, ◌%◌, ◌<◌}
use native.Mathlib.Omega.{arith}
use lib.Bits.{bit_xor, xor_zero_l, xor_zero_r}
use Rattle.block.specs.Division.{step_bit}
use Rattle.block.proofs.Linear.{stepped_lt}
use Rattle.block.proofs.Xor.{xor_assoc}
use Rattle.joining.specs.Joining.{times}
use Rattle.joining.proofs.Multiples.{scaled_lt}
use Rattle.joining.proofs.Products.{zero_times}
use Rattle.joining.proofs.Halving.{times_halved}
use Rattle.joining.proofs.times.Goals as goal

-- one turn of the loop
on : (product rest moved turned : ℕ) → rest < 8192 → moved < 8192 → turned ≡ step_bit moved 0
    → bit_xor (bit_xor product (rest % 2 * moved)) (times (rest / 2) turned) ≡ bit_xor product (times rest moved)
on product rest moved turned hr hm e =
    ap (λ (n : ℕ). bit_xor (bit_xor product (rest % 2 * moved)) (times (rest / 2) n)) e
    ∙ xor_assoc product (rest % 2 * moved) (times (rest / 2) (step_bit moved 0))
    ∙ ap (bit_xor product) (sym (times_halved rest moved hr hm))

-- nothing is left of the first
done : (product rest moved : ℕ) → rest < 1 → moved < 8192 → bit_xor product (times rest moved) ≡ product
done product rest moved h hm =
    let e : rest ≡ 0 = omega arith in
    ap (λ (n : ℕ). bit_xor product (times n moved)) e ∙ ap (bit_xor product) (zero_times moved hm) ∙ xor_zero_r product

pub loop-rest-init : goal.loop-rest-init
loop-rest-init c = (xor_zero_l (times c.args.first c.args.second), c.requires.0, c.requires.1)

pub overflow_mul-product : goal.overflow_mul-product
overflow_mul-product c =
    let at = c.loop-rest in
    omega (arith, scaled_lt (at.rest % 2) at.moved (omega arith) at.invariant.2)

pub overflow_cast-moved : goal.overflow_cast-moved
overflow_cast-moved c = omega (arith, stepped_lt c.turn-moved.ensures c.loop-rest.invariant.2 (omega arith))

pub loop-rest-preserved : goal.loop-rest-preserved
loop-rest-preserved c =
    let at = c.loop-rest in (
      on at.product at.rest at.moved c.turn-moved.result at.invariant.1 at.invariant.2 c.turn-moved.ensures ∙ at.invariant.0,
      omega (arith, at.invariant.1),
      stepped_lt c.turn-moved.ensures at.invariant.2 (omega arith),
    )

pub returns : goal.returns
returns c =
    let at = c.loop-rest in
    sym (done at.product at.rest at.moved (omega arith) at.invariant.2) ∙ at.invariant.0
