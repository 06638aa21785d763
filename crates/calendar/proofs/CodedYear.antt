-- The coded year of a date holds its day between the Mondays of two weeks 1, and is known by that.
-- Assumes nothing.
use Prim.Native.Nat.{ℕ, ◌+◌, ◌-◌, ◌≤◌, ◌<◌}
use native.Mathlib.Omega.{arith}
use mathlib.Core.Path.{◌≡◌}
use mathlib.Core.Logic.{◌⊎◌, inl, inr}
use Rattle.record.specs.declared.Edition.{Edition}
use Rattle.record.proofs.Tests.{le_or_lt}
use Rattle.calendar.specs.declared.Date.{Date}
use Rattle.calendar.specs.Years.{first_civil_year, leap_year, days_of_years, new_year}
use Rattle.calendar.specs.Weeks.{week_one}
use Rattle.calendar.specs.Dates.{day_of_date, coded_year, record_on, record_at}
use Rattle.calendar.proofs.Years.{year_range, year_next}
use Rattle.calendar.proofs.Weeks.{one_rises}
use Rattle.calendar.proofs.Around.{Holds, only, near, holds}
use Rattle.calendar.proofs.Bounds.{Bounds, day_bounds}

-- week 1 of the year before begins before the year
far_before : (y : ℕ) → first_civil_year ≤ y → week_one (y - 1) ≤ new_year y
unfolding days_of_years
far_before y a = by (le_or_lt y 1900)
  where
    by : (y ≤ 1900) ⊎ (1900 < y) → week_one (y - 1) ≤ new_year y
    by (inl h) = let e : y ≡ 1900 = omega arith in rw e (omega arith)
    by (inr h) =
        let e : y - 1 + 1 ≡ y = omega arith in
        omega (arith, rw e at (year_next (y - 1) (omega arith)), (year_range (leap_year (y - 1))).0)

-- the civil year or a neighbour
pub coded_near : (d : Date) → (d.year ≤ coded_year d + 1) × (coded_year d ≤ d.year + 1)
unfolding coded_year
coded_near d = near week_one d.year (day_of_date d)

module _ (d : Date) (a : first_civil_year ≤ d.year) (b : Bounds d) where
  abbrev Y : ℕ
  Y = d.year

  pub coded_holds : Holds week_one (day_of_date d) (coded_year d)
  unfolding coded_year
  coded_holds =
      let day = day_bounds d a b in
      let late = year_next (Y + 1) (omega arith) in
      holds week_one Y (day_of_date d) (omega arith)
      (omega (arith, day.from, far_before Y a))
      (omega (arith, day.to, late, (year_range (leap_year (Y + 1))).0))

  pub coded_is : (y : ℕ) → Holds week_one (day_of_date d) y → coded_year d ≡ y
  coded_is y h = only week_one one_rises (day_of_date d) (coded_year d) y coded_holds h

-- the record of a date so many days after the Monday of week 1
pub record_on_lem : (edition : Edition) (d : Date) → first_civil_year ≤ d.year → Bounds d → (y since : ℕ) → day_of_date d ≡ week_one y + since
    → week_one y + since < week_one (y + 1) → record_at edition d ≡ record_on edition y since d
unfolding record_at
record_on_lem edition d a b y since e h =
    let same : week_one y + since - week_one y ≡ since = omega arith in
    rw (coded_is d a b y (record { from = omega arith; to = omega arith }), e, same)
