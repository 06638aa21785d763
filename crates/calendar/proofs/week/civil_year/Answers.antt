-- `calendar::week::civil_year` meets its contract: the years begin on 1 January.
-- Assumes nothing.
use Rattle.calendar.proofs.week.civil_year.Goals as goal

pub returns : goal.returns
returns c = rw (← c.new_year.ensures, ← c.new_year-2.ensures) c.year_around.ensures
