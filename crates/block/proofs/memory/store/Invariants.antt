-- `store` meets its contract. The loop's invariant: the bits still to be stored, before those that are, are all the bits.
-- Assumes nothing.
use mathlib.Core.List.{◌++◌}
use mathlib.Core.Path.{◌≡◌}
use lib.ListN.{length, drop}
use Rattle.block.specs.Bits.{bits_of}
use Rattle.block.proofs.memory.store.Given as goal

abbrev pub invariant-loop-k : goal.invariant-loop-k
invariant-loop-k l = bits_of l.k l.left ++ drop l.k l.out ≡ bits_of (length l.initial.out) l.number
