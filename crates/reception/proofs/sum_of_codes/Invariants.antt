-- `sum_of_codes` meets its contract. The loop's invariant: the sums stand before the codes that wait for theirs.
-- Assumes nothing.
use Rattle.std.proofs.Common.{◌≡◌, ◌++◌, take, drop}
use Rattle.reception.specs.Reports.{adds}
use Rattle.reception.proofs.sum_of_codes.Given as goal

abbrev pub invariant-loop-code : goal.invariant-loop-code
invariant-loop-code l = l.sums ≡ take l.code (adds l.one l.other) ++ drop l.code l.one
