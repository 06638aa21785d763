-- What a date in range says of its fields, and the other way.
-- Assumes nothing.
use Prim.Native.Nat.{◌+◌, ◌-◌, ◌≤◌}
use native.Mathlib.Omega.{arith}
use mathlib.Core.Path.{◌≡◌}
use mathlib.Core.Bool.{true, and-eq-true_iff}
use Rattle.record.proofs.Tests.{between, is_within}
use Rattle.record.proofs.Bounds.{Time, time_bounds, time_in_range_lem}
use Rattle.calendar.specs.declared.Date.{Date}
use Rattle.calendar.specs.Years.{first_civil_year, leap_year, year_length, new_year}
use Rattle.calendar.specs.Days.{months, month_length, day_of_month, month_day, month_from}
use Rattle.calendar.specs.Dates.{date_in_range, day_of_date}
use Rattle.calendar.proofs.Years.{year_next}
use Rattle.calendar.proofs.Months.{day_range, month_back}
use Rattle.calendar.proofs.Around.{Holds}

pub record Bounds (d : Date) : Type 0 where
  pub month : (1 ≤ d.month) × (d.month ≤ 12)
  pub day : (1 ≤ d.day) × (d.day ≤ month_length (leap_year d.year) d.month)
  pub time : Time d.hour d.minute d.offset

pub bounds : (d : Date) → date_in_range d ≡ true → Bounds d
unfolding date_in_range
bounds d e =
    let a = (and-eq-true_iff _ _).0 e in
    let b = (and-eq-true_iff _ _).0 a.1 in
    record { month = between 1 _ 12 a.0; day = between 1 _ _ b.0; time = time_bounds _ _ _ b.1 }

pub date_in_range_lem : (d : Date) → Bounds d → date_in_range d ≡ true
unfolding date_in_range
date_in_range_lem d b =
    rw (
      is_within 1 d.month 12 b.month.0 b.month.1,
      is_within 1 d.day (month_length (leap_year d.year) d.month) b.day.0 b.day.1,
    )
    (time_in_range_lem d.hour d.minute d.offset b.time)

-- the day of a month is a day of the year
pub year_day :
    (d : Date) →
    Bounds d →
    (1 ≤ day_of_month (leap_year d.year) d.month d.day) × (day_of_month (leap_year d.year) d.month d.day ≤ year_length (leap_year d.year))
year_day d b = (omega (arith, b.day.0), day_range (leap_year d.year) d.month d.day b.month.0 b.month.1 b.day.1)

-- so the day of a date is a day of its civil year
pub day_bounds : (d : Date) → first_civil_year ≤ d.year → Bounds d → Holds new_year (day_of_date d) d.year
day_bounds d a b =
    let day = year_day d b in
    record { from = omega arith; to = omega (arith, year_next d.year a, day) }

-- month and day are found again from the day of the year
pub month_again :
    (d : Date) →
    Bounds d →
    month_from (months (leap_year d.year)) 1 (day_of_month (leap_year d.year) d.month d.day) ≡ month_day d.month d.day
month_again d b =
    let month : 1 + (d.month - 1) ≡ d.month = omega (arith, b.month) in
    rw month at (month_back (months (leap_year d.year)) (d.month - 1) 1 d.day (omega (arith, b.month)) b.day.0 b.day.1)
