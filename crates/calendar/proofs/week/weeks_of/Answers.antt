-- `calendar::week::weeks_of` meets its contract: its tests are those of the rule for 53 weeks.
-- Assumes nothing.
use borrow.Author.Tests.{eq-eqb, ne_eqb}
use Rattle.calendar.proofs.Weeks.{fifty_three}
use Rattle.calendar.proofs.week.weeks_of.Goals as goal

pub returns-then-start_day-eq4 : goal.returns-then-start_day-eq4
returns-then-start_day-eq4 c = rw (fifty_three _ _ c.requires.0 c.requires.1, eq-eqb _ 4 c.if-start_day-eq4.true)

pub returns-then-leap : goal.returns-then-leap
returns-then-leap c =
    rw (fifty_three _ _ c.requires.0 c.requires.1, ne_eqb _ 4 c.if-start_day-eq4.false, eq-eqb _ 3 c.if-start_day-eq3.true, c.if-leap.true)

pub returns-else-leap : goal.returns-else-leap
returns-else-leap c =
    rw (fifty_three _ _ c.requires.0 c.requires.1, ne_eqb _ 4 c.if-start_day-eq4.false, eq-eqb _ 3 c.if-start_day-eq3.true, c.if-leap.false)

pub returns : goal.returns
returns c =
    rw (fifty_three _ _ c.requires.0 c.requires.1, ne_eqb _ 4 c.if-start_day-eq4.false, ne_eqb _ 3 c.if-start_day-eq3.false)
