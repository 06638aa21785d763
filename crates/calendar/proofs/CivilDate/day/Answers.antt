-- `calendar::CivilDate::day` meets its contract: 1 January, the months before, and the day of the month.
-- Assumes nothing.
use Prim.Native.Nat.{◌-◌}
use native.Mathlib.Omega.{arith}
use mathlib.Core.Path.{◌≡◌, ◌∙◌}
use Rattle.calendar.specs.Years.{leap_year}
use Rattle.calendar.specs.Days.{months, sum_of}
use Rattle.calendar.proofs.Years.{year_range, days_most}
use Rattle.calendar.proofs.Bounds.{bounds, year_day}
use Rattle.calendar.proofs.CivilDate.day.Goals as goal

pub days_before-requires : goal.days_before-requires
days_before-requires c = (bounds _ c.args.self.are_in_range).month

pub overflow_add-days : goal.overflow_add-days
overflow_add-days c =
    let d = c.args.self.fields in
    let days : c.days_before.result ≡ sum_of (d.month - 1) (months (leap_year d.year)) =
    c.days_before.ensures ∙ rw c.is_leap.ensures in
    omega (arith, year_day d (bounds d c.args.self.are_in_range), year_range (leap_year d.year))

pub overflow_sub-result : goal.overflow_sub-result
overflow_sub-result c =
    omega (arith, (bounds c.args.self.fields c.args.self.are_in_range).day.0)

pub overflow_add-result : goal.overflow_add-result
overflow_add-result c = omega (arith, c.new_year.ensures, days_most (c.args.self.fields.year - 1900))

pub returns : goal.returns
returns c =
    rw (c.new_year.ensures, c.days_before.ensures, c.is_leap.ensures)
