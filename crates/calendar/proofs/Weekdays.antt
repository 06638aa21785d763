-- The weekday in the record of a date is the one that a count of days gives.
-- Assumes nothing.
use Rattle.std.specs.Prelude.{Ok}
use Prim.Native.Nat.{ℕ, ◌+◌}
use native.Mathlib.Omega.{arith}
use mathlib.Core.Path.{◌≡◌, sym, ap, ◌∙◌}
use lib.IntN.{pos}
use Rattle.record.specs.declared.Edition.{Edition}
use Rattle.record.specs.declared.Record.{Record}
use Rattle.calendar.specs.declared.Date.{Date}
use Rattle.calendar.specs.Years.{leap_year, days_of_years, weekday_after}
use Rattle.calendar.specs.Days.{sum_of}
use Rattle.calendar.specs.Dates.{new_date, day_of_date, record_at, record_of}
use Rattle.calendar.proofs.CodedYear.{coded_holds}
use Rattle.calendar.proofs.Answers.{civil, record_given}

module _ (edition : Edition) where
  -- from Monday, 1 January 1900
  pub weekday_counted : (d : Date) (r : Record) → record_of edition d ≡ Ok r → r.weekday ≡ weekday_after (day_of_date d) 1
  unfolding record_at
  weekday_counted d r e =
      let g = record_given edition d r e in
      let h = coded_holds d (civil d g.0).0 g.0.bounds in
      sym (ap (λ (w : Record). w.weekday) g.1) ∙ omega (arith, h.from)

  -- and from Tuesday, 1 January 1901
  pub counted_from_1901 :
      (d : Date) (r : Record) (days : ℕ) →
      record_of edition d ≡ Ok r →
      day_of_date d ≡ day_of_date (new_date 1901 1 1 0 0 (pos 0)) + days →
      r.weekday ≡ weekday_after days 2
  unfolding days_of_years leap_year sum_of
  counted_from_1901 d r days e h = weekday_counted d r e ∙ omega (arith, h)
