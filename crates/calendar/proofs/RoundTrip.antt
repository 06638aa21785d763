-- Dates and records, there and back: both name one day, which lies in one civil and in one coded year.
-- Assumes nothing.
use Rattle.std.specs.Prelude.{Ok}
use Prim.Native.Nat.{ℕ, ◌+◌, ◌*◌, ◌-◌, ◌/◌, ◌%◌, ◌≤◌, ◌<◌}
use native.Mathlib.Omega.{arith}
use mathlib.Core.Path.{◌≡◌, refl, ap, ◌∙◌}
use Rattle.record.specs.declared.Edition.{Edition}
use Rattle.record.specs.declared.Record.{Record}
use Rattle.record.proofs.Bounds.{bounds as record-bounds, in_range_lem}
use Rattle.calendar.specs.declared.Date.{Date}
use Rattle.calendar.specs.LeapCodes.{leap_code}
use Rattle.calendar.specs.Years.{first_year_of_span, last_first_year, first_civil_year, span, leap_year, new_year, start_day_of, year_from}
use Rattle.calendar.specs.Days.{months, day_of_month, month_day}
use Rattle.calendar.specs.Weeks.{week_one, weeks_of, civil_year}
use Rattle.calendar.specs.Dates.{HasWeek, day_of_record, date_at, date_on, date_from, date_in, date_of, day_of_date, coded_year, record_at, record_of}
use Rattle.calendar.proofs.Years.{year_next, year_rises, start_range}
use Rattle.calendar.proofs.LeapCodes.{code_range}
use Rattle.calendar.proofs.Months.{months_sum, Found, month_found}
use Rattle.calendar.proofs.Weeks.{weeks_range, one_after}
use Rattle.calendar.proofs.Around.{Holds, only}
use Rattle.calendar.proofs.OneYear.{only_one}
use Rattle.calendar.proofs.Bounds.{Bounds, day_bounds, month_again}
use Rattle.calendar.proofs.CodedYear.{coded_holds, coded_is, record_on_lem}
use Rattle.calendar.proofs.Answers.{Usable, InCalendar, civil, record_is, record_given, date_is, date_given}
use Rattle.calendar.proofs.DayOfRecord.{coded_day, civil_day, civil_year_lem, OfKind, weeks_kept, has_week, found_kind}

module _ (d : Date) (c : InCalendar d) where
  pub day_in_year : Holds week_one (day_of_date d) (coded_year d)
  day_in_year = coded_holds d (civil d c).0 c.bounds

  -- the day lies in the weeks of the year
  pub since_range : day_of_date d - week_one (coded_year d) < 7 * weeks_of (leap_year (coded_year d)) (start_day_of (coded_year d))
  since_range = let h = day_in_year in omega (arith, h.from, h.to, one_after (coded_year d) (omega (arith, c.from)))

module _ (edition : Edition) where
  -- ---- from a date

  module _ (d : Date) (c : InCalendar d) where
    abbrev y : ℕ
    y = coded_year d

    recorded_kind : OfKind edition y (record_at edition d)
    unfolding record_at
    recorded_kind = record { from = c.from; to = c.to; start_day_lem = refl; leap_code_lem = refl }

    pub recorded_usable : Usable edition (record_at edition d)
    unfolding record_at
    recorded_usable =
        let weeks = weeks_range (leap_year y) (start_day_of y) in
        record {
          in_range =
              in_range_lem (record_at edition d)
              (record {
                leap = code_range edition y;
                start_day_lem = start_range y;
                week = (omega arith, omega (arith, since_range d c, weeks));
                weekday = (omega arith, omega arith);
                time = c.bounds.time;
              });
          in_year = omega (arith, since_range d c, weeks_kept edition (record_at edition d) y recorded_kind);
        }

    -- the record names the day again
    day_kept : day_of_record y (record_at edition d) ≡ day_of_date d
    unfolding record_at
    day_kept = omega (arith, (day_in_year d c).from)

    year_kept : civil_year y (day_of_date d) ≡ d.year
    year_kept =
        only new_year year_rises (day_of_date d) (civil_year y (day_of_date d)) d.year
        (rw day_kept at (civil_day (record_at edition d) y (has_week edition (record_at edition d) y recorded_kind recorded_usable)))
        (day_bounds d (civil d c).0 c.bounds)

    month_kept : date_on d.year (day_of_date d) (record_at edition d) ≡ d
    unfolding record_at
    month_kept =
        let b = c.bounds in
        let day : day_of_date d - new_year d.year + 1 ≡ day_of_month (leap_year d.year) d.month d.day = omega (arith, b.day.0) in
        rw (day, month_again d b)

    pub date_again : (first : ℕ) → first_year_of_span ≤ first → first ≤ last_first_year → first ≤ y → y < first + span → date_in edition first (record_at edition d) ≡ d
    unfolding date_in record_at
    date_again first p q h k =
        let year = only_one edition first (start_day_of y) (leap_code edition y) p q y (record { from = h; to = k; start_day_lem = refl; leap_code_lem = refl }) in
        rw (year, day_kept, year_kept) month_kept

  -- date to record to date
  pub date_back :
      (d : Date) (r : Record) (first : ℕ) →
      record_of edition d ≡ Ok r →
      first_year_of_span ≤ first →
      first ≤ last_first_year →
      first ≤ coded_year d →
      coded_year d < first + span →
      date_of edition r first ≡ Ok d
  date_back d r first e p q h k =
      let g = record_given edition d r e in
      rw (← g.1) (date_is edition (record_at edition d) first p q (recorded_usable d g.0) ∙ ap Ok (date_again d g.0 first p q h k))

  -- ---- from a record

  module _ (r : Record) (y : ℕ) (k : OfKind edition y r) (u : Usable edition r) where
    abbrev in_week : HasWeek y r
    in_week = has_week edition r y k u

    abbrev n : ℕ
    n = day_of_record y r

    abbrev Y : ℕ
    Y = civil_year y (day_of_record y r)

    is_civil : first_civil_year ≤ Y
    is_civil = (civil_year_lem r y in_week).0

    module _ (f : Found (months (leap_year Y)) 1 (n - new_year Y + 1)) where
      abbrev on : Date
      on = date_at Y (month_day (1 + f.at) f.day) r

      at_again : 1 + f.at - 1 ≡ f.at
      at_again = omega arith

      on_bounds : Bounds on
      on_bounds =
          record {
            month = (omega arith, omega (arith, f.inside));
            day = (f.from, rw at_again f.to);
            time = (record-bounds r u.in_range).time;
          }

      day_again : day_of_date on ≡ n
      day_again = rw at_again (omega (arith, f.whole, f.from, (civil_day r y in_week).from))

      coded_again : coded_year on ≡ y
      coded_again = coded_is on is_civil on_bounds y (rw day_again (coded_day r y in_week))

      record_again : record_at edition on ≡ r
      record_again =
          let b = record-bounds r u.in_range in
          let since = 7 * (r.week - 1) + (r.weekday - 1) in
          let h = coded_day r y in_week in
          let week : since / 7 + 1 ≡ r.week = omega (arith, b.week, b.weekday) in
          let weekday : since % 7 + 1 ≡ r.weekday = omega (arith, b.weekday) in
          record_on_lem edition on is_civil on_bounds y since (day_again ∙ omega arith) (omega (arith, h.to)) ∙ rw (week, weekday, k.start_day_lem, k.leap_code_lem)

      written_again : record_of edition on ≡ Ok r
      written_again =
          record_is edition on (record { from = rw coded_again k.from; to = rw coded_again k.to; bounds = on_bounds }) ∙ ap Ok record_again

    found : Found (months (leap_year Y)) 1 (n - new_year Y + 1)
    found =
        let h = civil_day r y in_week in
        month_found (months (leap_year Y)) 1 (n - new_year Y + 1) (omega arith)
        (rw (months_sum (leap_year Y)) (omega (arith, h.from, h.to, year_next Y is_civil)))

    pub from_date : record_of edition (date_from y r) ≡ Ok r
    from_date = rw found.is (written_again found)

    pub day_of_date_lem : day_of_date (date_from y r) ≡ day_of_record y r
    day_of_date_lem = rw found.is (day_again found)

  -- record to date to record
  pub record_back : (r : Record) (first : ℕ) (d : Date) → date_of edition r first ≡ Ok d → record_of edition d ≡ Ok r
  unfolding date_in
  record_back r first d e =
      let g = date_given edition r first d e in
      let u = g.2 in
      rw (← g.3) (from_date r (year_from edition span first r.start_day r.leap) (found_kind edition r first g.0 g.1 u) u)
