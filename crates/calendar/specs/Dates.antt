-- From records to dates and back (01, "The calendar", and "Numbers given when something is refused"; 02, No. 2 and
-- No. 3).
-- Assumes nothing.
use Rattle.std.specs.Prelude.{ℕ, ◌+◌, ◌*◌, ◌-◌, ◌/◌, ◌%◌, ◌≤◌, ◌≡◌, Bool, true, cond, ◌&&◌, leb, ℤ, Result, Ok, Err}
use Rattle.refusal.specs.declared.Refusal.{Refusal}
use Rattle.refusal.specs.declared.Refusal.TheVariants.{OutOfRange, NotInYear, WrongYear}
use Rattle.record.specs.declared.Edition.{Edition}
use Rattle.record.specs.declared.Record.{Record}
use Rattle.record.specs.Ranges.{within, time_in_range, in_range}
use Rattle.calendar.specs.declared.Date.{Date}
use Rattle.calendar.specs.declared.month.MonthDay.{MonthDay}
use Rattle.calendar.specs.LeapCodes.{leap_code, says_leap}
use Rattle.calendar.specs.Years.{
  first_year_of_span,
  last_first_year,
  last_year,
  span,
  first_civil_year,
  last_civil_year,
  leap_year,
  new_year,
  start_day_of,
  year_from,
}
use Rattle.calendar.specs.Days.{months, month_length, day_of_month, month_from}
use Rattle.calendar.specs.Weeks.{week_one, weeks_of, year_around, civil_year}

abbrev pub new_date : ℕ → ℕ → ℕ → ℕ → ℕ → ℤ → Date
new_date year month day hour minute offset =
    record { year = year; month = month; day = day; hour = hour; minute = minute; offset = offset }

-- the weeks of the year that a record names
abbrev pub weeks_in : Edition → Record → ℕ
weeks_in edition r = weeks_of (says_leap edition r.leap) r.start_day

-- a usable record itself; a field out of range gets 6, then week 53 in a year without one 7
unfoldable pub usable_of : Edition → Record → Result Record Refusal
usable_of edition r =
    cond (in_range r) (cond (leb r.week (weeks_in edition r)) (Ok r) (Err NotInYear)) (Err OutOfRange)

-- ---- the date of a record

-- a year that can be coded and has the week of a record in range
pub record HasWeek (coded : ℕ) (r : Record) : Type 0 where
  pub from : first_year_of_span ≤ coded
  pub to : coded ≤ last_year
  pub in_range : in_range r ≡ true
  pub has_week : r.week ≤ weeks_of (leap_year coded) (start_day_of coded)

-- the day that a record names in a coded year
abbrev pub day_of_record : ℕ → Record → ℕ
day_of_record coded r = week_one coded + 7 * (r.week - 1) + (r.weekday - 1)

-- a month and a day of it in a civil year, with the record's hour, minute and offset
abbrev pub date_at : ℕ → MonthDay → Record → Date
date_at year on r = new_date year on.month on.day r.hour r.minute r.offset

-- the date on a day of a civil year
abbrev pub date_on : ℕ → ℕ → Record → Date
date_on year day r = date_at year (month_from (months (leap_year year)) 1 (day - new_year year + 1)) r

-- the date of the day that a record names in a coded year
abbrev pub date_from : ℕ → Record → Date
date_from coded r = date_on (civil_year coded (day_of_record coded r)) (day_of_record coded r) r

-- the coded year is the one of the 28 that has the record's start day and, in its edition, its leap code
unfoldable pub date_in : Edition → ℕ → Record → Date
date_in edition first r = date_from (year_from edition span first r.start_day r.leap) r

unfoldable pub date_after : Edition → ℕ → Result Record Refusal → Result Date Refusal
date_after edition first (Ok r) = Ok (date_in edition first r)
date_after edition first (Err why) = Err why

-- a first year out of its bounds gets 8, then the record 6 or 7
unfoldable pub date_of : Edition → Record → ℕ → Result Date Refusal
date_of edition r first =
    cond (within first_year_of_span first last_first_year) (date_after edition first (usable_of edition r)) (Err WrongYear)

-- ---- the record of a date

-- the month exists, it has the day, and the time is in range
unfoldable pub date_in_range : Date → Bool
date_in_range d =
    within 1 d.month 12
    && (within 1 d.day (month_length (leap_year d.year) d.month) && time_in_range d.hour d.minute d.offset)

-- the day of a date
abbrev pub day_of_date : Date → ℕ
day_of_date d = new_year d.year + (day_of_month (leap_year d.year) d.month d.day - 1)

-- the coded year of a date is the week's year
unfoldable pub coded_year : Date → ℕ
coded_year d = year_around d.year (week_one d.year) (week_one (d.year + 1)) (day_of_date d)

-- the record of a date so many days after the Monday of week 1 of a coded year
abbrev pub record_on : Edition → ℕ → ℕ → Date → Record
record_on edition coded since d =
    record {
      leap = leap_code edition coded;
      start_day = start_day_of coded;
      week = since / 7 + 1;
      weekday = since % 7 + 1;
      hour = d.hour;
      minute = d.minute;
      offset = d.offset;
    }

unfoldable pub record_at : Edition → Date → Record
record_at edition d = record_on edition (coded_year d) (day_of_date d - week_one (coded_year d)) d

-- a civil year outside 1900 to 2100 gets 8, then what is out of range 6, then a coded year outside 1901 to 2099 8
unfoldable pub record_of : Edition → Date → Result Record Refusal
record_of edition d =
    cond (within first_civil_year d.year last_civil_year)
    (cond (date_in_range d)
    (cond (within first_year_of_span (coded_year d) last_year) (Ok (record_at edition d)) (Err WrongYear))
    (Err OutOfRange))
    (Err WrongYear)
