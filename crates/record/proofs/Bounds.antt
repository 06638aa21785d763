-- What a record in range says of its fields, and the other way.
-- Assumes nothing.
use Prim.Native.Nat.{ℕ, ◌≤◌}
use mathlib.Core.Path.{◌≡◌}
use mathlib.Core.Bool.{true, and-eq-true_iff}
use borrow.Author.Tests.{leb-true, le-leb}
use lib.IntN.{ℤ}
use Rattle.record.specs.declared.Record.{Record}
use Rattle.record.specs.Ranges.{offset_in_range, time_in_range, kind_in_range, day_in_range, in_range}
use Rattle.record.proofs.Tests.{between, is_within}

pub record Time (hour minute : ℕ) (offset : ℤ) : Type 0 where
  pub to_hour : hour ≤ 23
  pub to_minute : minute ≤ 59
  pub offset_in : offset_in_range offset ≡ true

module _ (hour minute : ℕ) (offset : ℤ) where
  pub time_bounds : time_in_range hour minute offset ≡ true → Time hour minute offset
  unfolding time_in_range
  time_bounds e =
      let a = (and-eq-true_iff _ _).0 e in
      let b = (and-eq-true_iff _ _).0 a.1 in
      record { to_hour = leb-true hour 23 a.0; to_minute = leb-true minute 59 b.0; offset_in = b.1 }

  pub time_in_range_lem : Time hour minute offset → time_in_range hour minute offset ≡ true
  unfolding time_in_range
  time_in_range_lem t = rw (le-leb hour 23 t.to_hour, le-leb minute 59 t.to_minute, t.offset_in)

pub record Bounds (r : Record) : Type 0 where
  pub leap : r.leap ≤ 3
  pub start_day_lem : (1 ≤ r.start_day) × (r.start_day ≤ 7)
  pub week : (1 ≤ r.week) × (r.week ≤ 53)
  pub weekday : (1 ≤ r.weekday) × (r.weekday ≤ 7)
  pub time : Time r.hour r.minute r.offset

pub bounds : (r : Record) → in_range r ≡ true → Bounds r
unfolding in_range kind_in_range day_in_range
bounds r e =
    let a = (and-eq-true_iff _ _).0 e in
    let b = (and-eq-true_iff _ _).0 a.1 in
    let kind = (and-eq-true_iff _ _).0 a.0 in
    let day = (and-eq-true_iff _ _).0 b.0 in
    record {
      leap = leb-true _ 3 kind.0;
      start_day_lem = between 1 _ 7 kind.1;
      week = between 1 _ 53 day.0;
      weekday = between 1 _ 7 day.1;
      time = time_bounds _ _ _ b.1;
    }

pub in_range_lem : (r : Record) → Bounds r → in_range r ≡ true
unfolding in_range kind_in_range day_in_range
in_range_lem r b =
    rw (
      le-leb r.leap 3 b.leap,
      is_within 1 r.start_day 7 b.start_day_lem.0 b.start_day_lem.1,
      is_within 1 r.week 53 b.week.0 b.week.1,
      is_within 1 r.weekday 7 b.weekday.0 b.weekday.1,
    )
    (time_in_range_lem r.hour r.minute r.offset b.time)
