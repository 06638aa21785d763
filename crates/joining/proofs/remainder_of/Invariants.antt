-- `remainder_of` meets its contract. The loop's invariant: what was seen were bits, and test and division of what is left go on to the
-- same ends.
-- Assumes nothing.
use mathlib.Core.Path.{◌≡◌}
use Prim.Native.Nat.{◌<◌}
use lib.ListN.{drop}
use Rattle.block.specs.Bits.{are_bits}
use Rattle.block.specs.Division.{remainder_from, remainder}
use Rattle.joining.proofs.remainder_of.Given as goal

abbrev pub invariant-loop-bit : goal.invariant-loop-bit
invariant-loop-bit l =
    (l.register < 8192)
    × (are_bits (drop l.bit-index l.bits) ≡ are_bits l.bits) × (remainder_from l.register (drop l.bit-index l.bits) ≡ remainder l.bits)
