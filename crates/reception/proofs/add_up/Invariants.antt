-- `add_up` meets its contract. The loop's invariant: what is left of the good ones lacks as much of all codes as the codes still to come.
-- Assumes nothing.
use Rattle.std.proofs.Common.{◌≡◌, ◌+◌, drop}
use Rattle.reception.specs.Reports.{total}
use Rattle.reception.proofs.add_up.Given as goal

abbrev pub invariant-loop-code : goal.invariant-loop-code
invariant-loop-code l = total l.codes + l.left ≡ l.good + total (drop l.code-index l.codes)
