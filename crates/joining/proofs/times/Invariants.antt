-- `times` meets its contract. The loop's invariant: what is summed, and the product of what is left of the first with the second moved
-- up, make the product.
-- Assumes nothing.
use mathlib.Core.Path.{◌≡◌}
use Prim.Native.Nat.{◌<◌}
use lib.Bits.{bit_xor}
use Rattle.joining.specs.Joining.{times}
use Rattle.joining.proofs.times.Given as goal

abbrev pub invariant-loop-rest : goal.invariant-loop-rest
invariant-loop-rest l =
    (bit_xor l.product (times l.rest l.moved) ≡ times l.first l.second) × (l.rest < 8192) × (l.moved < 8192)

abbrev pub decreases-loop-rest : goal.decreases-loop-rest
decreases-loop-rest l = l.rest
