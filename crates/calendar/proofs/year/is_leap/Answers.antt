-- `calendar::year::is_leap` meets its contract: the tests come in the order of the definition.
-- Assumes nothing.
use borrow.Author.Tests.{eq-eqb, ne_eqb}
use Rattle.calendar.specs.Years.{leap_year}
use Rattle.calendar.proofs.year.is_leap.Goals as goal

pub returns-then-year-eq0 : goal.returns-then-year-eq0
unfolding leap_year
returns-then-year-eq0 c = rw (eq-eqb _ 0 c.if-year-eq0.true)

pub returns : goal.returns
unfolding leap_year
returns c = rw (ne_eqb _ 0 c.if-year-eq0.false)
