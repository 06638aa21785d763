-- `store` meets its contract. The loop's invariant: the bytes still to be stored, before those that are, are all the bytes.
-- Assumes nothing.
use Rattle.std.proofs.Common.{◌≡◌, ◌++◌, length, drop}
use Rattle.big_endian.specs.Digits.{digits}
use Rattle.big_endian.proofs.store.Given as goal

abbrev pub invariant-loop-k : goal.invariant-loop-k
invariant-loop-k l = digits 8 l.k l.left ++ drop l.k l.out ≡ digits 8 (length l.initial.out) l.number
