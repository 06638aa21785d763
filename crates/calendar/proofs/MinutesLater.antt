-- So many minutes after the record of a date is the record of the date so many minutes later: each step is that of a next minute.
-- Assumes nothing.
use Rattle.std.specs.Prelude.{Ok}
use Prim.Native.Nat.{ℕ, zero, suc, ◌≤◌}
use native.Mathlib.Omega.{arith}
use mathlib.Core.Path.{◌≡◌, sym, ap, ◌∙◌}
use Rattle.record.specs.declared.Edition.{Edition}
use Rattle.record.specs.declared.Record.{Record}
use Rattle.calendar.specs.declared.Date.{Date}
use Rattle.calendar.specs.Years.{last_year, first_civil_year}
use Rattle.calendar.specs.Dates.{coded_year, record_at, record_of}
use Rattle.calendar.specs.MinutesLater.{then_next, minutes_later, minutes_later_of_date}
use Rattle.calendar.proofs.Bounds.{Bounds}
use Rattle.calendar.proofs.Answers.{InCalendar, civil, record_is, record_given}
use Rattle.calendar.proofs.NextDay.{minute_after}
use Rattle.calendar.proofs.Stepping.{coded_on, next_of_date_lem}

module _ (d : Date) (c : InCalendar d) where
  -- the date then is in range
  in_range_then : (k : ℕ) → (first_civil_year ≤ (minutes_later_of_date k d).year) × Bounds (minutes_later_of_date k d)
  unfolding minutes_later_of_date
  in_range_then zero = ((civil d c).0, c.bounds)
  in_range_then (suc k) =
      let at = in_range_then k in
      let next = (minute_after (minutes_later_of_date k d) at.0 at.1).1 in
      (next.from, next.bounds)

  one_later : (k : ℕ) → coded_year (minutes_later_of_date k d) ≤ coded_year (minutes_later_of_date (suc k) d)
  unfolding minutes_later_of_date
  one_later k = let at = in_range_then k in coded_on (minutes_later_of_date k d) at.0 at.1

  -- its coded year is not before that of the first
  pub coded_later : (k : ℕ) → coded_year d ≤ coded_year (minutes_later_of_date k d)
  unfolding minutes_later_of_date
  coded_later zero = omega arith
  coded_later (suc k) = omega (arith, coded_later k, one_later k)

  -- so it is in the calendar, if its year can still be coded
  in_calendar_then : (k : ℕ) → coded_year (minutes_later_of_date k d) ≤ last_year → InCalendar (minutes_later_of_date k d)
  in_calendar_then k h = record { from = omega (arith, c.from, coded_later k); to = h; bounds = (in_range_then k).1 }

module _ (edition : Edition) where
  -- and then the two answers are one
  pub later_of_date : (k : ℕ) (d : Date) (r : Record) → record_of edition d ≡ Ok r → coded_year (minutes_later_of_date k d) ≤ last_year
      → minutes_later edition k r ≡ record_of edition (minutes_later_of_date k d)
  unfolding minutes_later minutes_later_of_date
  later_of_date zero d r e h = sym e
  later_of_date (suc k) d r e h =
      let at = minutes_later_of_date k d in
      let c = (record_given edition d r e).0 in
      let before : coded_year at ≤ last_year = omega (arith, one_later d c k) in
      let given = record_is edition at (in_calendar_then d c k before) in
      ap (then_next edition) (later_of_date k d r e before ∙ given) ∙ next_of_date_lem edition at (record_at edition at) given h
