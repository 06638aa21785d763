-- Which dates have records: those of 1901 to 2099, the last day of 1900, which is a Monday, and the first three of 2100, which end a week.
-- Assumes nothing.
use Rattle.std.specs.Prelude.{Ok, Err}
use Prim.Native.Nat.{ℕ, ◌+◌, ◌≤◌, ◌<◌}
use native.Mathlib.Omega.{arith}
use mathlib.Core.Path.{◌≡◌, refl, sym, ap}
use mathlib.Core.Bool.{Bool, true, false, cond}
use mathlib.Core.Logic.{◌⊎◌, inl, inr, ⊎_elim, ◌↔◌}
use borrow.Author.Tests.{le-leb}
use Rattle.refusal.specs.declared.Refusal.TheVariants.{OutOfRange, WrongYear}
use Rattle.record.specs.declared.Edition.{Edition}
use Rattle.record.specs.declared.Record.{Record}
use Rattle.record.specs.Given.{given_record}
use Rattle.record.specs.Ranges.{within}
use Rattle.record.proofs.Tests.{le_or_lt}
use Rattle.calendar.specs.declared.Date.{Date}
use Rattle.calendar.specs.declared.month.MonthDay.{MonthDay}
use Rattle.calendar.specs.Years.{first_year_of_span, last_year, first_civil_year, last_civil_year, leap_year, days_of_years, new_year}
use Rattle.calendar.specs.Days.{sum_of, day_of_month, month_day, month_from}
use Rattle.calendar.specs.Weeks.{week_one}
use Rattle.calendar.specs.Dates.{date_in_range, day_of_date, coded_year, record_at, record_of}
use Rattle.calendar.proofs.Years.{year_rises}
use Rattle.calendar.proofs.Weeks.{one_rises}
use Rattle.calendar.proofs.Around.{later, ordered}
use Rattle.calendar.proofs.Bounds.{Bounds, bounds, date_in_range_lem, year_day, day_bounds, month_again}
use Rattle.calendar.proofs.CodedYear.{coded_holds}
use Rattle.calendar.proofs.Answers.{InCalendar, civil, record_is, record_given}

-- ---- 7 is not among the answers

never : (year range coded : Bool) (r : Record)
    → (given_record (cond year (cond range (cond coded (Ok r) (Err WrongYear)) (Err OutOfRange)) (Err WrongYear))).0 ≡ 7
    → ⊥
never false range coded r e = omega arith
never true false coded r e = omega arith
never true true true r e = omega arith
never true true false r e = omega arith

-- ---- the days that have records

-- from the Monday of week 1 of 1901 to the Sunday before week 1 of 2100
first_day : week_one 1901 ≡ 364
unfolding days_of_years leap_year
first_day = refl

end : week_one 2100 ≡ 73052
unfolding days_of_years leap_year
end = refl

module _ (d : Date) (a : first_civil_year ≤ d.year) (b : Bounds d) where
  abbrev n : ℕ
  n = day_of_date d

  coded_from_day : 364 ≤ n → n < 73052 → InCalendar d
  unfolding days_of_years leap_year
  coded_from_day h k =
      let held = coded_holds d a b in
      record {
        from = ordered week_one one_rises 364 n 1901 (coded_year d) (record { from = omega arith; to = omega arith }) held h;
        to = ordered week_one one_rises n 73051 (coded_year d) 2099 held (record { from = omega arith; to = omega arith }) (omega arith);
        bounds = b;
      }

  day_from_coded : InCalendar d → (364 ≤ n) × (n < 73052)
  day_from_coded c =
      let h = coded_holds d a b in
      let low = later week_one one_rises 1901 (coded_year d) c.from in
      let high = later week_one one_rises (coded_year d + 1) 2100 (omega (arith, c.to)) in
      (omega (arith, first_day, low, h.from), omega (arith, end, high, h.to))

-- ---- the dates

pub record LastOf1900 (d : Date) : Type 0 where
  pub year : d.year ≡ 1900
  pub month : d.month ≡ 12
  pub day : d.day ≡ 31

pub record FirstOf2100 (d : Date) : Type 0 where
  pub year : d.year ≡ 2100
  pub month : d.month ≡ 1
  pub day : d.day ≤ 3

abbrev pub Recordable : Date → Type 0
Recordable d = ((first_year_of_span ≤ d.year) × (d.year ≤ last_year)) ⊎ (LastOf1900 d ⊎ FirstOf2100 d)

module _ (d : Date) (b : Bounds d) where
  is_last : d.year ≡ 1900 → 364 ≤ day_of_date d → LastOf1900 d
  unfolding days_of_years leap_year month_from
  is_last e h =
      let in_year = rw e at (year_day d b) in
      let day : day_of_month (leap_year 1900) d.month d.day ≡ 365 = omega (arith, in_year, rw e at h) in
      let on : month_day 12 31 ≡ month_day d.month d.day = rw (e, day) at (month_again d b) in
      record { year = e; month = sym (ap (λ (m : MonthDay). m.month) on); day = sym (ap (λ (m : MonthDay). m.day) on) }

  is_first : d.year ≡ 2100 → day_of_date d < 73052 → FirstOf2100 d
  unfolding days_of_years leap_year month_from
  is_first e h =
      let n = day_of_month (leap_year 2100) d.month d.day in
      let day : n ≤ 3 = omega (arith, rw e at h) in
      let on : month_day 1 n ≡ month_day d.month d.day = rw (e, le-leb n 31 (omega arith)) at (month_again d b) in
      record { year = e; month = sym (ap (λ (m : MonthDay). m.month) on); day = omega (arith, ap (λ (m : MonthDay). m.day) on) }

-- the days of the dates that are named are among those that have records
named_day : (d : Date) → Bounds d → Recordable d → (first_civil_year ≤ d.year) × (364 ≤ day_of_date d) × (day_of_date d < 73052)
unfolding days_of_years leap_year sum_of
named_day d b (inl year) =
    let a : 1900 ≤ d.year = omega (arith, year.0) in
    let h = day_bounds d a b in
    let low = later new_year year_rises 1901 d.year year.0 in
    let high = later new_year year_rises (d.year + 1) 2100 (omega (arith, year.1)) in
    (a, omega (arith, low, h.from), omega (arith, high, h.to))
named_day d b (inr (inl l)) = rw (l.year, l.month, l.day) (omega arith, omega arith, omega arith)
named_day d b (inr (inr f)) = rw (f.year, f.month) (omega arith, omega (arith, b.day.0), omega (arith, b.day.0, f.day))

module _ (edition : Edition) where
  pub never_seven : (d : Date) → (given_record (record_of edition d)).0 ≡ 7 → ⊥
  unfolding record_of
  never_seven d e = never (within first_civil_year d.year last_civil_year) (date_in_range d) (within first_year_of_span (coded_year d) last_year) (record_at edition d) e

  has : (d : Date) (r : Record) → record_of edition d ≡ Ok r → (date_in_range d ≡ true) × Recordable d
  has d r e =
      let c = (record_given edition d r e).0 in
      let year = civil d c in
      let day = day_from_coded d year.0 c.bounds c in (
        date_in_range_lem d c.bounds,
        ⊎_elim
            (λ h. inr (inl (is_last d c.bounds (omega arith) day.0)))
            (λ h.
            ⊎_elim (λ k. inl (h, k)) (λ k. inr (inr (is_first d c.bounds (omega arith) day.1))) (le_or_lt d.year 2099))
            (le_or_lt d.year 1900),
      )

  pub recorded_exactly : (d : Date) → ((r : Record) × (record_of edition d ≡ Ok r)) ↔ ((date_in_range d ≡ true) × Recordable d)
  recorded_exactly d = (
    λ g. has d g.0 g.1,
    λ w.
        let b = bounds d w.0 in
        let day = named_day d b w.1 in
        (record_at edition d, record_is edition d (coded_from_day d day.0 b day.1 day.2)),
  )
