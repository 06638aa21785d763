-- The day of a record lies in a coded year that has its week, and the civil year that is found for it holds it; one of any 28 years is such
-- a year of a usable record.
-- Assumes nothing.
use Prim.Native.Nat.{ℕ, ◌+◌, ◌-◌, ◌≤◌}
use native.Mathlib.Omega.{arith}
use mathlib.Core.Path.{◌≡◌}
use Rattle.record.specs.declared.Edition.{Edition}
use Rattle.record.specs.declared.Record.{Record}
use Rattle.record.proofs.Bounds.{Bounds, bounds}
use Rattle.calendar.specs.LeapCodes.{leap_code}
use Rattle.calendar.specs.Years.{first_year_of_span, last_first_year, last_year, first_civil_year, last_civil_year, span, leap_year, new_year, start_day_of, year_from}
use Rattle.calendar.specs.Weeks.{week_one, weeks_of, civil_year}
use Rattle.calendar.specs.Dates.{weeks_in, HasWeek, day_of_record}
use Rattle.calendar.proofs.Years.{year_range, year_next}
use Rattle.calendar.proofs.LeapCodes.{leap_said}
use Rattle.calendar.proofs.Weeks.{one_after}
use Rattle.calendar.proofs.Around.{Holds, near, holds}
use Rattle.calendar.proofs.OneYear.{one}
use Rattle.calendar.proofs.Answers.{Usable}

module _ (r : Record) (y : ℕ) (h : HasWeek y r) where
  pub coded_day : Holds week_one (day_of_record y r) y
  coded_day =
      let b : Bounds r = bounds r h.in_range in
      record { from = omega arith; to = omega (arith, one_after y (omega (arith, h.from)), h.has_week, b.week, b.weekday) }

  pub civil_day : Holds new_year (day_of_record y r) (civil_year y (day_of_record y r))
  civil_day =
      let low = h.from in
      let last : y - 1 + 1 ≡ y = omega arith in
      holds new_year y (day_of_record y r) (omega arith)
      (omega (arith, rw last at (year_next (y - 1) (omega arith)), (year_range (leap_year (y - 1))).0, coded_day.from))
      (omega (arith, year_next (y + 1) (omega arith), (year_range (leap_year (y + 1))).0, coded_day.to))

  -- the civil year is one of those that dates can lie in
  pub civil_year_lem : (first_civil_year ≤ civil_year y (day_of_record y r)) × (civil_year y (day_of_record y r) ≤ last_civil_year)
  civil_year_lem = let n = near new_year y (day_of_record y r) in (omega (arith, h.from), omega (arith, h.to))

module _ (edition : Edition) where
  -- a year that can be coded, with the start day and the leap code of a record
  pub record OfKind (coded : ℕ) (r : Record) : Type 0 where
    pub from : first_year_of_span ≤ coded
    pub to : coded ≤ last_year
    pub start_day_lem : start_day_of coded ≡ r.start_day
    pub leap_code_lem : leap_code edition coded ≡ r.leap

  module _ (r : Record) (y : ℕ) (k : OfKind y r) where
    -- the year has the weeks of its kind
    pub weeks_kept : weeks_of (leap_year y) (start_day_of y) ≡ weeks_in edition r
    weeks_kept = rw (leap_said edition y k.from k.to, k.leap_code_lem, k.start_day_lem)

    -- so it has the week of a usable record
    pub has_week : Usable edition r → HasWeek y r
    has_week u = record { from = k.from; to = k.to; in_range = u.in_range; has_week = rw weeks_kept u.in_year }

  -- one of any 28 years is of the kind that a usable record names
  pub found_kind :
      (r : Record) (first : ℕ) →
      first_year_of_span ≤ first →
      first ≤ last_first_year →
      Usable edition r →
      OfKind (year_from edition span first r.start_day r.leap) r
  found_kind r first a b u =
      let f = bounds r u.in_range in
      let n = one edition first r.start_day r.leap a b f.start_day_lem.0 f.start_day_lem.1 f.leap in
      record { from = omega (arith, n.from); to = omega (arith, n.to); start_day_lem = n.start_day_lem; leap_code_lem = n.leap_code_lem }
