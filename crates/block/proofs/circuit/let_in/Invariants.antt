-- `let_in` meets its contract. The loop's invariant: the division of the bits that are left goes on to the same end.
-- Assumes nothing.
use mathlib.Core.Path.{◌≡◌}
use Prim.Native.Nat.{◌<◌, ◌/◌, ◌^◌}
use Rattle.block.specs.Bits.{bits_of}
use Rattle.block.specs.Division.{remainder_from}
use Rattle.block.proofs.circuit.let_in.Given as goal

abbrev pub invariant-loop-behind : goal.invariant-loop-behind
invariant-loop-behind l =
    (l.rest / 2 ^ l.behind < 8192)
    × (remainder_from (l.rest / 2 ^ l.behind) (bits_of l.behind l.rest) ≡ remainder_from (l.number / 2 ^ l.places) (bits_of l.places l.number))
