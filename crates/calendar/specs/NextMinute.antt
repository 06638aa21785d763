-- The next minute, of a record (01, "The calendar"; 02, No. 2 and No. 3) and, by itself, of a date.
-- Assumes nothing.
use Rattle.std.specs.Prelude.{ℕ, ◌+◌, cond, ltb, ℤ, Result, Ok, Err}
use Rattle.refusal.specs.declared.Refusal.{Refusal}
use Rattle.record.specs.declared.Edition.{Edition}
use Rattle.record.specs.declared.Record.{Record}
use Rattle.calendar.specs.declared.Date.{Date}
use Rattle.calendar.specs.LeapCodes.{says_leap, next_leap_code}
use Rattle.calendar.specs.Years.{leap_year, year_length, weekday_after}
use Rattle.calendar.specs.Days.{month_length}
use Rattle.calendar.specs.Dates.{new_date, weeks_in, usable_of}

-- ---- of a record

-- another time of the same day
abbrev pub at_time : ℕ → ℕ → Record → Record
at_time hour minute r =
    record { leap = r.leap; start_day = r.start_day; week = r.week; weekday = r.weekday; hour = hour; minute = minute; offset = r.offset }

-- midnight of a day, the offset carried over
abbrev pub midnight : ℕ → ℕ → ℕ → ℕ → ℤ → Record
midnight leap start week weekday offset =
    record { leap = leap; start_day = start; week = week; weekday = weekday; hour = 0; minute = 0; offset = offset }

-- the start day goes on by the days of the year
abbrev pub next_start_day : Edition → Record → ℕ
next_start_day edition r = weekday_after (year_length (says_leap edition r.leap)) r.start_day

-- week 1, weekday 1 of the next kind of year; a record knows no year, so a year before a leap year goes on to one from any
abbrev pub next_year : Edition → Record → Record
next_year edition r = midnight (next_leap_code edition r.leap) (next_start_day edition r) 1 1 r.offset

-- the next weekday, then the next week's Monday, and after the last week the next year
unfoldable pub next_day : Edition → Record → Record
next_day edition r =
    cond (ltb r.weekday 7) (midnight r.leap r.start_day r.week (r.weekday + 1) r.offset)
    (cond (ltb r.week (weeks_in edition r)) (midnight r.leap r.start_day (r.week + 1) 1 r.offset) (next_year edition r))

-- the minute goes on, then the hour, then the day
unfoldable pub go_on : Edition → Record → Record
go_on edition r =
    cond (ltb r.minute 59) (at_time r.hour (r.minute + 1) r)
    (cond (ltb r.hour 23) (at_time (r.hour + 1) 0 r) (next_day edition r))

unfoldable pub next_after : Edition → Result Record Refusal → Result Record Refusal
next_after edition (Ok r) = Ok (go_on edition r)
next_after edition (Err why) = Err why

-- a record that is not usable gets its 6 or 7; any other has a next minute
unfoldable pub next_minute_of : Edition → Record → Result Record Refusal
next_minute_of edition r = next_after edition (usable_of edition r)

-- ---- of a date

-- midnight of the next day: the next day of the month, or the first of the next month, or 1 January of the next year
unfoldable pub next_day_of_date : Date → Date
next_day_of_date d =
    cond (ltb d.day (month_length (leap_year d.year) d.month)) (new_date d.year d.month (d.day + 1) 0 0 d.offset)
    (cond (ltb d.month 12) (new_date d.year (d.month + 1) 1 0 0 d.offset) (new_date (d.year + 1) 1 1 0 0 d.offset))

-- the minute goes on, then the hour, then the day
unfoldable pub next_of_date : Date → Date
next_of_date d =
    cond (ltb d.minute 59) (new_date d.year d.month d.day d.hour (d.minute + 1) d.offset)
    (cond (ltb d.hour 23) (new_date d.year d.month d.day (d.hour + 1) 0 d.offset) (next_day_of_date d))
