-- `calendar::Date::in_year` meets its contract: each part is the one that its definition names.
-- Assumes nothing.
use Rattle.std.proofs.Common.{arith, rules, ◌≡◌, ℕ, ◌-◌, ◌+◌, ◌≤◌, Bool, Option, None, Some, IsSome, unwrap_or, length, ap, ◌∙◌}
use Rattle.calendar.specs.declared.month.MonthDay.{MonthDay}
use Rattle.calendar.specs.Days.{months, sum_of, month_day, month_from}
use Rattle.calendar.proofs.Months.{months_sum, month_found}
use Rattle.calendar.proofs.Unwrapped.{unwrapped}
use Rattle.record.specs.declared.Record.{Record}
use Rattle.record.proofs.Offset.{back}
use Rattle.calendar.specs.Years.{leap_year, year_length, new_year}
use Rattle.calendar.specs.Weeks.{civil_year}
use Rattle.calendar.specs.Dates.{HasWeek, day_of_record}
use Rattle.calendar.proofs.Years.{year_next, year_range}
use Rattle.calendar.proofs.Around.{Holds}
use Rattle.calendar.proofs.DayOfRecord.{civil_day, civil_year_lem}
use Rattle.calendar.proofs.Date.in_year.Goals as goal

-- the day lies in the year that is found for it
in_year :
    (coded day year new : ℕ) (r : Record) →
    HasWeek coded r →
    day ≡ day_of_record coded r →
    year ≡ civil_year coded day →
    new ≡ new_year year →
    (new ≤ day) × (day - new + 1 ≤ year_length (leap_year year))
in_year coded day year new r k d y n =
    let h : Holds new_year day year = rw (y, d) (civil_day r coded k) in
    let next = year_next year (rw (y, d) (civil_year_lem r coded k).0) in
    rw n (h.from, omega (arith, h.from, h.to, next))

pub invariant_of-ranged : goal.invariant_of-ranged
invariant_of-ranged c = record { are_in_range = c.requires.in_range }

pub day_of_record-day-requires : goal.day_of_record-day-requires
day_of_record-day-requires c = (c.requires.from, c.requires.to)

pub civil_year-year-requires : goal.civil_year-year-requires
civil_year-year-requires c = let k = c.requires in (omega (arith, k.from), omega (arith, k.to))

pub new_year-requires : goal.new_year-requires
new_year-requires c =
    let year = civil_year_lem c.args.«record» c.args.coded c.requires in
    rw (c.civil_year-year.ensures, c.day_of_record-day.ensures) (year.0, omega (arith, year.1))

pub overflow_sub-day : goal.overflow_sub-day
overflow_sub-day c =
    omega (arith, in_year _ _ _ _ _ c.requires c.day_of_record-day.ensures c.civil_year-year.ensures c.new_year.ensures)

pub overflow_add-day : goal.overflow_add-day
overflow_add-day c =
    omega (arith, in_year _ _ _ _ _ c.requires c.day_of_record-day.ensures c.civil_year-year.ensures c.new_year.ensures, year_range (leap_year c.civil_year-year.result))

-- so the year has it
there : (leap : Bool) (n : ℕ) (r : Option MonthDay) → unwrap_or r (month_day 0 0) ≡ month_from (months leap) 1 n → 1 ≤ n → n ≤ year_length leap → IsSome r
there leap n (Some x) e a b = search rules
there leap n None e a b =
    let sum : sum_of (length (months leap)) (months leap) ≡ year_length leap = months_sum leap in
    let f = month_found (months leap) 1 n a (omega arith) in
    let none : 0 ≡ 1 + f.at = ap (λ (p : MonthDay). p.month) (e ∙ f.is) in
    absurd (omega arith)

pub unwrap-on-requires : goal.unwrap-on-requires
unwrap-on-requires c =
    let y = in_year _ _ _ _ _ c.requires c.day_of_record-day.ensures c.civil_year-year.ensures c.new_year.ensures in
    there c.is_leap.result _ c.month_day.result c.month_day.ensures (omega arith) (rw c.is_leap.ensures y.1)

pub returns : goal.returns
returns c =
    let offset = back {z = c.args.«record».offset} (omega arith) in
    rw (
      c.new.ensures,
      offset,
      unwrapped _ _ _ _ c.unwrap-on.ensures c.month_day.ensures,
      c.is_leap.ensures,
      c.new_year.ensures,
      c.civil_year-year.ensures,
      c.day_of_record-day.ensures,
    )
