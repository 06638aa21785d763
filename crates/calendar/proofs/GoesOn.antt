-- A usable record goes on without end: its next minute is there and is usable, and so is every later one.
-- Assumes nothing.
use Rattle.std.specs.Prelude.{Ok}
use Prim.Native.Nat.{ℕ, zero, suc, ◌+◌, ◌≤◌}
use native.Mathlib.Omega.{arith}
use mathlib.Core.Path.{◌≡◌, refl, ap, ◌∙◌}
use Rattle.record.specs.declared.Edition.{Edition}
use Rattle.record.specs.declared.Record.{Record}
use Rattle.record.proofs.Bounds.{Bounds, bounds, in_range_lem}
use Rattle.calendar.specs.LeapCodes.{says_leap, next_leap_code}
use Rattle.calendar.specs.Weeks.{weeks_of}
use Rattle.calendar.specs.Dates.{weeks_in}
use Rattle.calendar.specs.NextMinute.{at_time, midnight, next_start_day, next_day, go_on, next_after, next_minute_of}
use Rattle.calendar.specs.MinutesLater.{then_next, minutes_later}
use Rattle.calendar.proofs.Choice.{in_each_case}
use Rattle.calendar.proofs.LeapCodes.{next_range}
use Rattle.calendar.proofs.Weeks.{weeks_range}
use Rattle.calendar.proofs.Answers.{Usable, usable_is}

module _ (edition : Edition) where
  module _ (r : Record) (u : Usable edition r) where
    abbrev b : Bounds r
    b = bounds r u.in_range

    -- another time of the day
    at_time_lem : (hour minute : ℕ) → hour ≤ 23 → minute ≤ 59 → Usable edition (at_time hour minute r)
    at_time_lem hour minute h k =
        record {
          in_range =
              in_range_lem (at_time hour minute r)
              (record {
                leap = b.leap;
                start_day_lem = b.start_day_lem;
                week = b.week;
                weekday = b.weekday;
                time = record { to_hour = h; to_minute = k; offset_in = b.time.offset_in };
              });
          in_year = u.in_year;
        }

    -- midnight of a day that the year has
    at_midnight :
        (leap start week weekday : ℕ) →
        leap ≤ 3 →
        (1 ≤ start) × (start ≤ 7) →
        1 ≤ week →
        (1 ≤ weekday) × (weekday ≤ 7) →
        week ≤ weeks_of (says_leap edition leap) start →
        Usable edition (midnight leap start week weekday r.offset)
    at_midnight leap start week weekday l s w v h =
        record {
          in_range =
              in_range_lem (midnight leap start week weekday r.offset)
              (record {
                leap = l;
                start_day_lem = s;
                week = (w, omega (arith, weeks_range (says_leap edition leap) start));
                weekday = v;
                time = record { to_hour = omega arith; to_minute = omega arith; offset_in = b.time.offset_in };
              });
          in_year = h;
        }

    next_day_lem : Usable edition (next_day edition r)
    unfolding next_day
    next_day_lem =
        let s = b.start_day_lem in
        let w = b.week in
        let l = b.leap in
        in_each_case (Usable edition) r.weekday 7 r.week (weeks_in edition r)
        (λ h. at_midnight r.leap r.start_day r.week (r.weekday + 1) l s w.0 (omega arith, omega arith) u.in_year)
        (λ h k. at_midnight r.leap r.start_day (r.week + 1) 1 l s (omega arith) (omega arith, omega arith) (omega arith))
        (λ h k.
        at_midnight (next_leap_code edition r.leap) (next_start_day edition r) 1 1
        (next_range edition r.leap l)
        (omega arith, omega arith)
        (omega arith)
        (omega arith, omega arith)
        (omega (arith, (weeks_range (says_leap edition (next_leap_code edition r.leap)) (next_start_day edition r)).0)))

    pub go_on_lem : Usable edition (go_on edition r)
    unfolding go_on
    go_on_lem =
        let t = b.time in
        in_each_case (Usable edition) r.minute 59 r.hour 23
        (λ h. at_time_lem r.hour (r.minute + 1) t.to_hour (omega arith))
        (λ h k. at_time_lem (r.hour + 1) 0 (omega arith) (omega arith))
        (λ h k. next_day_lem)

    pub next_given : next_minute_of edition r ≡ Ok (go_on edition r)
    unfolding next_minute_of next_after
    next_given = rw (usable_is edition r u)

  -- minutes later there is a usable record
  pub later_given : (k : ℕ) (r : Record) → Usable edition r → (n : Record) × (minutes_later edition k r ≡ Ok n) × Usable edition n
  unfolding minutes_later
  later_given zero r u = (r, refl, u)
  later_given (suc k) r u =
      let n = later_given k r u in
      (go_on edition n.0, ap (then_next edition) n.1 ∙ next_given n.0 n.2, go_on_lem n.0 n.2)
