-- The next minute of a date's record is the record of the date's next minute: the day moves by one, and with it the weekday, then the week,
-- then the coded year.
-- Assumes nothing.
use Rattle.std.specs.Prelude.{Ok}
use Prim.Native.Nat.{ℕ, ◌+◌, ◌*◌, ◌-◌, ◌/◌, ◌%◌, ◌≤◌, ◌<◌}
use native.Mathlib.Omega.{arith}
use mathlib.Core.Path.{◌≡◌, refl, sym, ap, ◌∙◌}
use mathlib.Core.Logic.{⊎_elim}
use borrow.Author.Tests.{lt-ltb, le-ltb}
use Rattle.record.specs.declared.Edition.{Edition}
use Rattle.record.specs.declared.Record.{Record}
use Rattle.record.proofs.Tests.{le_or_lt}
use Rattle.calendar.specs.declared.Date.{Date}
use Rattle.calendar.specs.LeapCodes.{leap_code}
use Rattle.calendar.specs.Years.{last_year, first_civil_year, leap_year, start_day_of}
use Rattle.calendar.specs.Weeks.{week_one, weeks_of}
use Rattle.calendar.specs.Dates.{date_of, day_of_date, coded_year, record_at, record_of}
use Rattle.calendar.specs.NextMinute.{midnight, next_day, go_on, next_after, next_minute_of, next_day_of_date, next_of_date}
use Rattle.calendar.proofs.Choice.{in_each_case}
use Rattle.calendar.proofs.Years.{start_next}
use Rattle.calendar.proofs.LeapCodes.{next_code, leap_said}
use Rattle.calendar.proofs.Weeks.{weeks_range, one_after, one_rises}
use Rattle.calendar.proofs.Around.{ordered}
use Rattle.calendar.proofs.Bounds.{Bounds}
use Rattle.calendar.proofs.CodedYear.{coded_holds, record_on_lem}
use Rattle.calendar.proofs.Answers.{InCalendar, civil, usable_is, record_is, record_given}
use Rattle.calendar.proofs.RoundTrip.{day_in_year, since_range, recorded_usable, record_back}
use Rattle.calendar.proofs.NextDay.{Midnight, midnight_after, minute_after}

-- the coded year goes on with the day
pub coded_on : (d : Date) → first_civil_year ≤ d.year → Bounds d → coded_year d ≤ coded_year (next_of_date d)
coded_on d a b =
    let next = (minute_after d a b).1 in
    ordered week_one one_rises (day_of_date d) (day_of_date (next_of_date d)) _ _
    (coded_holds d a b)
    (coded_holds (next_of_date d) next.from next.bounds)
    (omega (arith, next.day))

-- where its year can be coded, the next minute is in the calendar
pub next_in : (d : Date) → InCalendar d → coded_year (next_of_date d) ≤ last_year → InCalendar (next_of_date d)
next_in d c h =
    let a = (civil d c).0 in
    let b = c.bounds in
    record { from = omega (arith, c.from, coded_on d a b); to = h; bounds = (minute_after d a b).1.bounds }

module _ (edition : Edition) where
  -- ---- the day goes on

  module _ (d : Date) (c : InCalendar d) (e : Date) (m : Midnight d e) where
    abbrev y : ℕ
    y = coded_year d

    -- the days since the Monday of week 1, and the weeks of the year
    abbrev N : ℕ
    N = day_of_date d - week_one y

    abbrev W : ℕ
    W = weeks_of (leap_year y) (start_day_of y)

    next_one : week_one (y + 1) ≡ week_one y + 7 * W
    next_one = one_after y (omega (arith, c.from))

    -- so many days after the Monday of week 1 of a coded year
    goes :
        (coded since week weekday : ℕ) →
        day_of_date e ≡ week_one coded + since →
        week_one coded + since < week_one (coded + 1) →
        since / 7 + 1 ≡ week →
        since % 7 + 1 ≡ weekday →
        midnight (leap_code edition coded) (start_day_of coded) week weekday d.offset ≡ record_at edition e
    goes coded since week weekday h k v w =
        sym (record_on_lem edition e m.after.from m.after.bounds coded since h k ∙ rw (v, w, m.hour, m.minute, m.offset))

    since_on : day_of_date e ≡ week_one y + (N + 1)
    since_on = omega (arith, m.after.day, (day_in_year d c).from)

    weekday_on : N % 7 + 1 < 7 → midnight (leap_code edition y) (start_day_of y) (N / 7 + 1) (N % 7 + 1 + 1) d.offset ≡ record_at edition e
    weekday_on h = goes y (N + 1) _ _ since_on (omega (arith, next_one, since_range d c)) (omega arith) (omega arith)

    week_on : 7 ≤ N % 7 + 1 → N / 7 + 1 < W → midnight (leap_code edition y) (start_day_of y) (N / 7 + 1 + 1) 1 d.offset ≡ record_at edition e
    week_on h k = goes y (N + 1) _ _ since_on (omega (arith, next_one)) (omega arith) (omega arith)

    year_on : 7 ≤ N % 7 + 1 → W ≤ N / 7 + 1 → midnight (leap_code edition (y + 1)) (start_day_of (y + 1)) 1 1 d.offset ≡ record_at edition e
    year_on h k =
        let after = one_after (y + 1) (omega (arith, c.from)) in
        let weeks = (weeks_range (leap_year (y + 1)) (start_day_of (y + 1))).0 in
        goes (y + 1) 0 _ _ (omega (arith, since_on, next_one, since_range d c)) (omega (arith, after, weeks)) refl refl

    pub day_on : next_day edition (record_at edition d) ≡ record_at edition e
    unfolding next_day record_at
    day_on =
        rw (← leap_said edition y c.from c.to, ← start_next y (omega (arith, c.from)), next_code edition y)
        (in_each_case (λ r. r ≡ record_at edition e) (N % 7 + 1) 7 (N / 7 + 1) W weekday_on week_on year_on)

  -- ---- the minute goes on

  module _ (d : Date) (c : InCalendar d) where
    pub time_on : go_on edition (record_at edition d) ≡ record_at edition (next_of_date d)
    unfolding go_on next_of_date record_at coded_year
    time_on =
        ⊎_elim
        (λ l.
        ⊎_elim
        (λ k. rw (le-ltb d.minute 59 l, le-ltb d.hour 23 k) (day_on d c (next_day_of_date d) (midnight_after d (civil d c).0 c.bounds)))
        (λ k. rw (le-ltb d.minute 59 l, lt-ltb d.hour 23 k))
        (le_or_lt 23 d.hour))
        (λ l. rw (lt-ltb d.minute 59 l))
        (le_or_lt 59 d.minute)

  -- the two answers are one
  pub next_of_date_lem :
      (d : Date) (r : Record) →
      record_of edition d ≡ Ok r →
      coded_year (next_of_date d) ≤ last_year →
      next_minute_of edition r ≡ record_of edition (next_of_date d)
  unfolding next_minute_of next_after
  next_of_date_lem d r e h =
      let g = record_given edition d r e in
      rw (← g.1, usable_is edition (record_at edition d) (recorded_usable edition d g.0))
      (ap Ok (time_on d g.0) ∙ sym (record_is edition (next_of_date d) (next_in d g.0 h)))

  -- the same for a record and its date in any 28 years
  pub next_of_record :
      (r : Record) (first : ℕ) (d : Date) →
      date_of edition r first ≡ Ok d →
      coded_year (next_of_date d) ≤ last_year →
      next_minute_of edition r ≡ record_of edition (next_of_date d)
  next_of_record r first d e = next_of_date_lem d r (record_back edition r first d e)
