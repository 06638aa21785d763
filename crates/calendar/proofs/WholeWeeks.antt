-- A year is made of whole weeks: within it weeks never fall, and a week that the year has has seven days, one after the other.
-- Assumes nothing.
use Rattle.std.specs.Prelude.{Ok}
use Prim.Native.Nat.{ℕ, ◌+◌, ◌-◌, ◌≤◌}
use native.Mathlib.Omega.{arith}
use mathlib.Core.Path.{◌≡◌, sym, ap, ◌∙◌}
use Rattle.record.specs.declared.Edition.{Edition}
use Rattle.record.specs.declared.Record.{Record}
use Rattle.record.proofs.Bounds.{bounds, in_range_lem}
use Rattle.calendar.specs.declared.Date.{Date}
use Rattle.calendar.specs.Years.{span, year_from}
use Rattle.calendar.specs.Dates.{date_in, date_of, day_of_date, coded_year, record_at, record_of}
use Rattle.calendar.proofs.Answers.{Usable, record_given, date_given}
use Rattle.calendar.proofs.DayOfRecord.{found_kind}
use Rattle.calendar.proofs.RoundTrip.{day_of_date_lem}

-- the record of another weekday of the same week, at the same time
abbrev pub on_weekday : ℕ → Record → Record
on_weekday weekday r =
    record { leap = r.leap; start_day = r.start_day; week = r.week; weekday = weekday; hour = r.hour; minute = r.minute; offset = r.offset }

module _ (edition : Edition) where
  -- within a coded year a later day is in no earlier week
  pub weeks_rise :
      (d e : Date) (r s : Record) →
      record_of edition d ≡ Ok r →
      record_of edition e ≡ Ok s →
      coded_year d ≡ coded_year e →
      day_of_date d ≤ day_of_date e →
      r.week ≤ s.week
  unfolding record_at
  weeks_rise d e r s p q same h =
      let weekOf : Record → ℕ = λ w. w.week in
      rw (← ap weekOf (record_given edition d r p).1, ← ap weekOf (record_given edition e s q).1, same) (omega arith)

  -- with one day of a week the year has all seven
  pub seven_days : (r : Record) (weekday : ℕ) → Usable edition r → 1 ≤ weekday → weekday ≤ 7 → Usable edition (on_weekday weekday r)
  seven_days r weekday u h k =
      let b = bounds r u.in_range in
      record {
        in_range =
            in_range_lem (on_weekday weekday r)
            (record { leap = b.leap; start_day_lem = b.start_day_lem; week = b.week; weekday = (h, k); time = b.time });
        in_year = u.in_year;
      }

  -- and they come one after the other, from Monday on
  pub days_in_order :
      (r : Record) (first weekday : ℕ) (monday d : Date) →
      date_of edition (on_weekday 1 r) first ≡ Ok monday →
      date_of edition (on_weekday weekday r) first ≡ Ok d →
      day_of_date d ≡ day_of_date monday + (weekday - 1)
  unfolding date_in
  days_in_order r first weekday monday d p q =
      let m = date_given edition (on_weekday 1 r) first monday p in
      let g = date_given edition (on_weekday weekday r) first d q in
      let coded = year_from edition span first r.start_day r.leap in
      let a = day_of_date_lem edition (on_weekday 1 r) coded (found_kind edition (on_weekday 1 r) first m.0 m.1 m.2) m.2 in
      let b = day_of_date_lem edition (on_weekday weekday r) coded (found_kind edition (on_weekday weekday r) first g.0 g.1 g.2) g.2 in
      omega (arith, sym (ap day_of_date m.3) ∙ a, sym (ap day_of_date g.3) ∙ b)
