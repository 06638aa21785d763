-- `pack` meets its contract. The loop's invariant: what was seen were bits, and test and value of what is left go on to the same ends.
-- Assumes nothing.
use mathlib.Core.Path.{◌≡◌}
use Prim.Native.Nat.{◌<◌, ◌^◌}
use lib.ListN.{drop}
use Rattle.block.specs.Bits.{are_bits, value, value_from}
use Rattle.block.proofs.pack.Given as goal

abbrev pub invariant-loop-bit : goal.invariant-loop-bit
invariant-loop-bit l =
    (l.number < 2 ^ l.bit-index) × (are_bits (drop l.bit-index l.bits) ≡ are_bits l.bits) × (value_from l.number (drop l.bit-index l.bits) ≡ value l.bits)
