-- `calendar::minute::Ranged::go_on` meets its contract: the tests come in the order of the definition.
-- Assumes nothing.
use borrow.Author.Tests.{lt-ltb, le-ltb}
use Rattle.calendar.specs.NextMinute.{go_on}
use Rattle.calendar.proofs.minute.Ranged.go_on.Goals as goal

pub returns-then-record-lt59 : goal.returns-then-record-lt59
unfolding go_on
returns-then-record-lt59 c = rw (c.at_time.ensures, lt-ltb _ 59 c.if-record-lt59.true)

pub returns-then-record-lt23 : goal.returns-then-record-lt23
unfolding go_on
returns-then-record-lt23 c =
    rw (c.at_time-then-record-lt23.ensures, le-ltb _ 59 c.if-record-lt59.false, lt-ltb _ 23 c.if-record-lt23.true)

pub returns : goal.returns
unfolding go_on
returns c =
    rw (le-ltb _ 59 c.if-record-lt59.false, le-ltb _ 23 c.if-record-lt23.false) c.next_day.ensures
