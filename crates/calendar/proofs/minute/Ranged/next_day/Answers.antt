-- `calendar::minute::Ranged::next_day` meets its contract: the tests come in the order of the definition.
-- Assumes nothing.
use native.Mathlib.Omega.{arith}
use borrow.Author.Tests.{lt-ltb, le-ltb}
use Rattle.record.proofs.Bounds.{bounds}
use Rattle.record.proofs.Offset.{back}
use Rattle.calendar.specs.NextMinute.{next_day}
use Rattle.calendar.proofs.minute.Ranged.next_day.Goals as goal

pub returns-then-record-lt7 : goal.returns-then-record-lt7
unfolding next_day
returns-then-record-lt7 c =
    let offset = back {z = c.args.self.fields.offset} (omega arith) in
    rw (c.midnight.ensures, offset, lt-ltb _ 7 c.if-record-lt7.true)

pub weeks_of-requires : goal.weeks_of-requires
weeks_of-requires c =
    (bounds c.args.self.fields c.args.self.are_in_range).start_day_lem

pub returns-then-record-weeks_of : goal.returns-then-record-weeks_of
unfolding next_day
returns-then-record-weeks_of c =
    let offset = back {z = c.args.self.fields.offset} (omega arith) in
    rw (c.midnight-then-record-weeks_of.ensures, offset, le-ltb _ 7 c.if-record-lt7.false, ← c.says_leap.ensures, ← c.weeks_of.ensures, lt-ltb _ _ c.if-record-weeks_of.true)

pub returns : goal.returns
unfolding next_day
returns c =
    let count = rw c.says_leap.ensures at c.weeks_of.ensures in
    rw (le-ltb _ 7 c.if-record-lt7.false, ← count, le-ltb _ _ c.if-record-weeks_of.false) c.next_year.ensures
