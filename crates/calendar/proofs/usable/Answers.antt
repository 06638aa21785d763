-- `calendar::usable` meets its contract: the tests come in the order of the definition.
-- Assumes nothing.
use mathlib.Core.Path.{sym, ◌∙◌}
use borrow.Author.Tests.{le-leb, lt-leb}
use Rattle.record.proofs.Bounds.{bounds}
use Rattle.calendar.specs.Dates.{usable_of}
use Rattle.calendar.proofs.usable.Goals as goal

pub weeks_of-weeks-requires : goal.weeks_of-weeks-requires
weeks_of-weeks-requires c =
    (bounds _ (sym c.in_range.ensures ∙ c.if-in_range.true)).start_day_lem

pub returns-then-record-weeks : goal.returns-then-record-weeks
unfolding usable_of
returns-then-record-weeks c =
    rw (← c.in_range.ensures, c.if-in_range.true, ← c.says_leap.ensures, ← c.weeks_of-weeks.ensures, le-leb _ _ c.if-record-weeks.true)

pub returns-else-record-weeks : goal.returns-else-record-weeks
unfolding usable_of
returns-else-record-weeks c =
    rw (← c.in_range.ensures, c.if-in_range.true, ← c.says_leap.ensures, ← c.weeks_of-weeks.ensures, lt-leb _ _ c.if-record-weeks.false)

pub returns-else-in_range : goal.returns-else-in_range
unfolding usable_of
returns-else-in_range c = rw (← c.in_range.ensures, c.if-in_range.false)
