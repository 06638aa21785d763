-- It ends, since half of a length that is not 0 is less.
-- Assumes nothing.
use Rattle.joining.proofs.+power_of_x.Given as goal

abbrev pub decreases-power_of_x : goal.decreases-power_of_x
decreases-power_of_x l = l.length
