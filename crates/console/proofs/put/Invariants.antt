-- `put` ends: the measure is what is left.
-- Assumes nothing.
use Rattle.std.proofs.Common.{length}
use Rattle.console.proofs.put.Given as goal

abbrev pub decreases-loop-rest : goal.decreases-loop-rest
decreases-loop-rest g l = length l.rest
