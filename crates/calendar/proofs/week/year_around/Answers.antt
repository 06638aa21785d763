-- `calendar::week::year_around` meets its contract: the tests come in the order of the definition.
-- Assumes nothing.
use borrow.Author.Tests.{lt-ltb, le-ltb}
use Rattle.calendar.specs.Weeks.{year_around}
use Rattle.calendar.proofs.week.year_around.Goals as goal

pub returns-then-day-begin : goal.returns-then-day-begin
unfolding year_around
returns-then-day-begin c = rw (lt-ltb _ _ c.if-day-begin.true)

pub returns-then-day-next : goal.returns-then-day-next
unfolding year_around
returns-then-day-next c = rw (le-ltb _ _ c.if-day-begin.false, lt-ltb _ _ c.if-day-next.true)

pub returns : goal.returns
unfolding year_around
returns c = rw (le-ltb _ _ c.if-day-begin.false, le-ltb _ _ c.if-day-next.false)
