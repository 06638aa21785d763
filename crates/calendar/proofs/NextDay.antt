-- The midnight after a date is on the day after: a step moves the day of the month by one, or to the first of the next month or year.
-- Assumes nothing.
use Prim.Native.Nat.{ℕ, suc, ◌+◌, ◌-◌, ◌≤◌, ◌<◌}
use native.Mathlib.Omega.{arith}
use mathlib.Core.Path.{◌≡◌, refl, sym, ap, ◌∙◌}
use mathlib.Core.Bool.{Bool}
use Rattle.record.proofs.Bounds.{Time}
use Rattle.calendar.specs.declared.Date.{Date}
use Rattle.calendar.specs.Years.{first_civil_year, leap_year, year_length}
use Rattle.calendar.specs.Days.{months, month_length, sum_of}
use Rattle.calendar.specs.Dates.{new_date, day_of_date}
use Rattle.calendar.specs.NextMinute.{next_day_of_date, next_of_date}
use Rattle.calendar.proofs.Choice.{in_each_case}
use Rattle.calendar.proofs.Years.{year_next}
use Rattle.calendar.proofs.Months.{sum_suc, months_sum, month_least}
use Rattle.calendar.proofs.Bounds.{Bounds}

-- a date so many days after another, in range
pub record DaysAfter (days : ℕ) (d e : Date) : Type 0 where
  pub from : first_civil_year ≤ e.year
  pub bounds : Bounds e
  pub day : day_of_date e ≡ day_of_date d + days

-- a midnight on the next day
pub record Midnight (d e : Date) : Type 0 where
  pub after : DaysAfter 1 d e
  pub hour : e.hour ≡ 0
  pub minute : e.minute ≡ 0
  pub offset : e.offset ≡ d.offset

module _ (d : Date) (a : first_civil_year ≤ d.year) (b : Bounds d) where
  abbrev L : Bool
  L = leap_year d.year

  at : (year month day : ℕ) → DaysAfter 1 d (new_date year month day 0 0 d.offset) → Midnight d (new_date year month day 0 0 d.offset)
  at year month day after = record { after = after; hour = refl; minute = refl; offset = refl }

  midnight_in : Time 0 0 d.offset
  midnight_in = record { to_hour = omega arith; to_minute = omega arith; offset_in = b.time.offset_in }

  month_whole : (i : ℕ) → suc (d.month - 1) ≡ i → sum_of i (months L) ≡ sum_of (d.month - 1) (months L) + month_length L d.month
  month_whole i e = ap (λ (i : ℕ). sum_of i (months L)) (sym e) ∙ sum_suc (d.month - 1) (months L)

  in_month : d.day < month_length L d.month → Midnight d (new_date d.year d.month (d.day + 1) 0 0 d.offset)
  in_month h =
      at d.year d.month (d.day + 1)
      (record {
        from = a;
        bounds = record { month = b.month; day = (omega arith, omega arith); time = midnight_in };
        day = omega (arith, b.day.0);
      })

  next_month : month_length L d.month ≤ d.day → d.month < 12 → Midnight d (new_date d.year (d.month + 1) 1 0 0 d.offset)
  next_month h k =
      let m = b.month in
      let whole = month_whole (d.month + 1 - 1) (omega arith) in
      let least = month_least L (d.month + 1) (omega arith) (omega arith) in
      at d.year (d.month + 1) 1
      (record {
        from = a;
        bounds = record { month = (omega arith, omega arith); day = (omega arith, omega (arith, least)); time = midnight_in };
        day = omega (arith, b.day);
      })

  next_year_lem : month_length L d.month ≤ d.day → 12 ≤ d.month → Midnight d (new_date (d.year + 1) 1 1 0 0 d.offset)
  unfolding sum_of
  next_year_lem h k =
      let last : d.month ≡ 12 = omega (arith, b.month) in
      let whole = month_whole 12 (omega arith) in
      let days : sum_of (d.month - 1) (months L) + d.day ≡ year_length L = omega (arith, months_sum L, b.day.1) in
      at (d.year + 1) 1 1
      (record {
        from = omega arith;
        bounds = record { month = (omega arith, omega arith); day = (omega arith, omega arith); time = midnight_in };
        day = omega (arith, year_next d.year a, days, b.day.0);
      })

  pub midnight_after : Midnight d (next_day_of_date d)
  unfolding next_day_of_date
  midnight_after = in_each_case (Midnight d) d.day (month_length L d.month) d.month 12 in_month next_month next_year_lem

  -- the next minute is on the same day or on the day after
  on_day : (hour minute : ℕ) → hour ≤ 23 → minute ≤ 59 → DaysAfter 0 d (new_date d.year d.month d.day hour minute d.offset)
  on_day hour minute h k =
      record {
        from = a;
        bounds = record { month = b.month; day = b.day; time = record { to_hour = h; to_minute = k; offset_in = b.time.offset_in } };
        day = omega arith;
      }

  pub minute_after : (days : ℕ) × DaysAfter days d (next_of_date d)
  unfolding next_of_date
  minute_after =
      in_each_case (λ e. (days : ℕ) × DaysAfter days d e) d.minute 59 d.hour 23
      (λ h. (0, on_day d.hour (d.minute + 1) b.time.to_hour (omega arith)))
      (λ h k. (0, on_day (d.hour + 1) 0 (omega arith) (omega arith)))
      (λ h k. (1, midnight_after.after))
