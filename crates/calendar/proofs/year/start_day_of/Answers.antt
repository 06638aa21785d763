-- `calendar::year::start_day_of` meets its contract: days are counted from a Monday.
-- Assumes nothing.
use native.Mathlib.Omega.{arith}
use Rattle.calendar.specs.Years.{start_day_of}
use Rattle.calendar.proofs.year.start_day_of.Goals as goal

pub returns : goal.returns
unfolding start_day_of
returns c = omega (arith, c.new_year.ensures)
