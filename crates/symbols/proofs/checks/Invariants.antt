-- `checks` meets its contract. The loop's invariant: the sum is the check symbols of the bits so far.
-- Assumes nothing.
use Rattle.std.proofs.Common.{◌%◌, ◌^◌}
use Rattle.symbols.specs.Code.{Checked}
use Rattle.symbols.proofs.checks.Given as goal

abbrev pub invariant-loop-place : goal.invariant-loop-place
invariant-loop-place l = Checked (l.symbols % 2 ^ l.place) l.sum
