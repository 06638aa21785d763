-- `may_be_first` meets its contract: it is the test of its bounds. The return is named, so that a wrong bound is refused at its own fact.
-- Assumes nothing.
use Rattle.calendar.proofs.Date.may_be_first.Goals as goal

pub returns : goal.returns
returns c = c.within.ensures
