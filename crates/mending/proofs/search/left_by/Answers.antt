-- `left_by` meets its contract: the circuit turns once more for the last bit.
-- Assumes nothing.
use mathlib.Core.Path.{ap, ◌∙◌}
use Prim.Native.Nat.{ℕ, ◌%◌, ◌^◌}
use native.Mathlib.Omega.{arith}
use lib.Bits.{bit_xor}
use Rattle.block.specs.Division.{step_bit}
use Rattle.block.proofs.Linear.{stepped_lt}
use Rattle.block.proofs.Strings.{thirteen}
use Rattle.mending.proofs.Goodness.{inverted_left}
use Rattle.mending.proofs.search.left_by.Goals as goal

pub overflow_cast-result : goal.overflow_cast-result
overflow_cast-result c = omega (arith, stepped_lt c.turn.ensures (thirteen 49 _ c.remainder.ensures) (omega arith))

pub returns : goal.returns
returns c =
    let n = c.args.block in
    c.turn.ensures ∙ ap (λ (r : ℕ). step_bit r (bit_xor n (2 ^ 49) % 2)) c.remainder.ensures ∙ inverted_left n
