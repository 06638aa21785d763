-- `calendar::CivilDate::record_in` meets its contract: the days since the Monday of week 1, divided by 7.
-- Assumes nothing.
use Prim.Native.Nat.{ℕ, ◌-◌, ◌≤◌, ◌<◌}
use native.Mathlib.Omega.{arith}
use mathlib.Core.Path.{◌≡◌, ◌∙◌}
use mathlib.Core.Bool.{true}
use Rattle.record.proofs.Offset.{back}
use Rattle.calendar.specs.declared.Date.{Date}
use Rattle.calendar.specs.Years.{first_year_of_span, last_year, leap_year, start_day_of}
use Rattle.calendar.specs.Weeks.{week_one}
use Rattle.calendar.specs.Dates.{date_in_range, day_of_date, coded_year, record_at}
use Rattle.calendar.proofs.Bounds.{bounds}
use Rattle.calendar.proofs.Weeks.{weeks_range}
use Rattle.calendar.proofs.Answers.{InCalendar, record_is}
use Rattle.calendar.proofs.RoundTrip.{day_in_year, since_range}
use Rattle.calendar.proofs.CivilDate.record_in.Goals as goal

-- what the caller knows of the date: it is in the calendar, and its day in the weeks of its year
in_calendar :
    (coded : ℕ) (date : Date) →
    first_year_of_span ≤ coded →
    coded ≤ last_year →
    date_in_range date ≡ true →
    coded ≡ coded_year date →
    InCalendar date
in_calendar coded date a b range e = record { from = rw (← e) a; to = rw (← e) b; bounds = bounds date range }

in_weeks : (coded day : ℕ) (date : Date) → InCalendar date → coded ≡ coded_year date → day ≡ day_of_date date → (week_one coded ≤ day) × (day - week_one coded < 371)
in_weeks coded day date c e f =
    rw (e, f) ((day_in_year date c).from, omega (arith, since_range date c, (weeks_range (leap_year (coded_year date)) (start_day_of (coded_year date))).1))

pub overflow_sub-since : goal.overflow_sub-since
overflow_sub-since c =
    let p = c.requires in
    omega (arith, c.week_one.ensures, in_weeks _ _ _ (in_calendar _ _ p.0 p.1 c.args.self.are_in_range p.2) p.2 p.3)

pub overflow_cast-result : goal.overflow_cast-result
overflow_cast-result c =
    let p = c.requires in
    omega (arith, c.week_one.ensures, in_weeks _ _ _ (in_calendar _ _ p.0 p.1 c.args.self.are_in_range p.2) p.2 p.3)

pub returns : goal.returns
unfolding record_at
returns c =
    let p = c.requires in
    record_is c.args.edition c.args.self.fields (in_calendar _ _ p.0 p.1 c.args.self.are_in_range p.2)
    ∙ rw (c.start_day_of.ensures, c.leap_code.ensures, c.week_one.ensures, p.3, p.2, back {z = c.args.self.fields.offset} (omega arith))
