-- What each answer says of its input: the tests that were passed on the way to it.
-- Assumes nothing.
use Rattle.std.specs.Prelude.{Result, Ok, Err}
use Prim.Native.Nat.{ℕ, ◌≤◌}
use native.Mathlib.Omega.{arith}
use mathlib.Core.Path.{◌≡◌, refl, ap, ◌∙◌}
use mathlib.Core.Bool.{true}
use borrow.Author.Tests.{leb-true, le-leb}
use lib.Dec.{leb}
use Rattle.refusal.specs.declared.Refusal.{Refusal}
use Rattle.refusal.specs.declared.Refusal.TheVariants.{OutOfRange, NotInYear, WrongYear}
use Rattle.record.specs.declared.Edition.{Edition}
use Rattle.record.specs.declared.Record.{Record}
use Rattle.record.specs.Ranges.{within, in_range}
use Rattle.record.proofs.Tests.{between, is_within, chosen, not_given}
use Rattle.calendar.specs.declared.Date.{Date}
use Rattle.calendar.specs.Years.{first_year_of_span, last_first_year, last_year, first_civil_year, last_civil_year}
use Rattle.calendar.specs.Dates.{weeks_in, usable_of, date_in, date_after, date_of, date_in_range, coded_year, record_at, record_of}
use Rattle.calendar.proofs.Bounds.{Bounds, bounds, date_in_range_lem}
use Rattle.calendar.proofs.CodedYear.{coded_near}

-- ---- dates that can be coded

-- a date in range whose week's year can be coded
pub record InCalendar (d : Date) : Type 0 where
  pub from : first_year_of_span ≤ coded_year d
  pub to : coded_year d ≤ last_year
  pub bounds : Bounds d

-- so its civil year is one of those that dates can lie in
pub civil : (d : Date) → InCalendar d → (first_civil_year ≤ d.year) × (d.year ≤ last_civil_year)
civil d c = let n = coded_near d in (omega (arith, c.from), omega (arith, c.to))

module _ (edition : Edition) where
  after_given : (first : ℕ) (d : Date) (u : Result Record Refusal) → date_after edition first u ≡ Ok d → (r : Record) × (u ≡ Ok r) × (date_in edition first r ≡ d)
  unfolding date_after
  after_given first d (Ok r) e = (r, refl, cc)
  after_given first d (Err why) e = absurd (not_given why d e)

  -- ---- a usable record

  pub record Usable (r : Record) : Type 0 where
    pub in_range : in_range r ≡ true
    pub in_year : r.week ≤ weeks_in edition r

  pub usable_given : (u r : Record) → usable_of edition u ≡ Ok r → (u ≡ r) × Usable r
  unfolding usable_of
  usable_given u r e =
      let a = chosen (in_range u) _ _ _ (not_given OutOfRange r) e in
      let b = chosen (leb u.week (weeks_in edition u)) _ _ _ (not_given NotInYear r) a.1 in
      let same : u ≡ r = cc in
      (same, record { in_range = rw same at a.0; in_year = rw same at (leb-true u.week (weeks_in edition u) b.0) })

  pub usable_is : (r : Record) → Usable r → usable_of edition r ≡ Ok r
  unfolding usable_of
  usable_is r u = rw (u.in_range, le-leb r.week (weeks_in edition r) u.in_year)

  -- ---- the record of a date

  pub record_is : (d : Date) → InCalendar d → record_of edition d ≡ Ok (record_at edition d)
  unfolding record_of
  record_is d c =
      let year = civil d c in
      rw (is_within 1900 d.year 2100 year.0 year.1, date_in_range_lem d c.bounds, is_within 1901 (coded_year d) 2099 c.from c.to)

  pub record_given : (d : Date) (r : Record) → record_of edition d ≡ Ok r → InCalendar d × (record_at edition d ≡ r)
  unfolding record_of
  record_given d r e =
      let a = chosen (within first_civil_year d.year last_civil_year) _ _ _ (not_given WrongYear r) e in
      let b = chosen (date_in_range d) _ _ _ (not_given OutOfRange r) a.1 in
      let c = chosen (within first_year_of_span (coded_year d) last_year) _ _ _ (not_given WrongYear r) b.1 in
      let year = between 1901 (coded_year d) 2099 c.0 in
      (record { from = year.0; to = year.1; bounds = bounds d b.0 }, cc)

  -- ---- the date of a record

  pub date_is : (r : Record) (first : ℕ) → first_year_of_span ≤ first → first ≤ last_first_year → Usable r → date_of edition r first ≡ Ok (date_in edition first r)
  unfolding date_of date_after
  date_is r first a b u = rw (is_within 1901 first 2072 a b, usable_is r u)

  pub date_given :
      (r : Record) (first : ℕ) (d : Date) →
      date_of edition r first ≡ Ok d →
      (first_year_of_span ≤ first) × (first ≤ last_first_year) × Usable r × (date_in edition first r ≡ d)
  unfolding date_of
  date_given r first d e =
      let a = chosen (within first_year_of_span first last_first_year) _ _ _ (not_given WrongYear d) e in
      let year = between 1901 first 2072 a.0 in
      let u = after_given first d (usable_of edition r) a.1 in
      let w = usable_given r u.0 u.1 in
      (year.0, year.1, rw (← w.0) at w.1, ap (date_in edition first) w.0 ∙ u.2)
