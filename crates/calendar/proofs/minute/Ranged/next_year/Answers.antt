-- `calendar::minute::Ranged::next_year` meets its contract: the start day goes on by the days of the year, and the leap code by its own rule.
-- Assumes nothing.
use native.Mathlib.Omega.{arith}
use Rattle.record.proofs.Bounds.{bounds}
use Rattle.record.proofs.Offset.{back}
use Rattle.calendar.proofs.Years.{year_range}
use Rattle.calendar.proofs.minute.Ranged.next_year.Goals as goal

pub next_leap_code-leap-requires : goal.next_leap_code-leap-requires
next_leap_code-leap-requires c =
    (bounds c.args.self.fields c.args.self.are_in_range).leap

pub overflow_sub-start_day : goal.overflow_sub-start_day
overflow_sub-start_day c =
    omega (arith, (bounds c.args.self.fields c.args.self.are_in_range).start_day_lem)

pub overflow_add-start_day : goal.overflow_add-start_day
overflow_add-start_day c =
    omega (arith, c.year_length-days.ensures, year_range c.says_leap.result)

pub returns : goal.returns
returns c =
    let offset = back {z = c.args.self.fields.offset} (omega arith) in
    rw (c.midnight.ensures, offset, c.next_leap_code-leap.ensures, c.year_length-days.ensures, c.says_leap.ensures)
