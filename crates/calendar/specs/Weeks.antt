-- Weeks by ISO 8601: Monday starts the week, and week 1 of a year is the one that holds 4 January (02, No. 2).
-- Assumes nothing.
use Rattle.std.specs.Prelude.{ℕ, ◌+◌, ◌-◌, ◌/◌, ◌%◌, Bool, cond, ltb}
use Rattle.calendar.specs.Years.{year_length, new_year}

-- the Monday of the week that holds a day, where days are counted from a Monday
abbrev pub monday_of : ℕ → ℕ
monday_of day = day - day % 7

-- the Monday of the week that holds 4 January, where 1 January is this day
abbrev pub first_monday : ℕ → ℕ
first_monday january = monday_of (january + 3)

-- the Monday of week 1 of a year
abbrev pub week_one : ℕ → ℕ
week_one y = first_monday (new_year y)

-- how many weeks lie before week 1 of the next year, in a year that is leap or not and starts on this weekday; its days are counted
-- from the Monday of the week that holds 1 January
unfoldable pub weeks_of : Bool → ℕ → ℕ
weeks_of leap start = (first_monday (start - 1 + year_length leap) - first_monday (start - 1)) / 7

-- a year, the one before it or the one after it, whichever holds a day; the year begins on one day, the next on another
unfoldable pub year_around : ℕ → ℕ → ℕ → ℕ → ℕ
year_around y begin next day = cond (ltb day begin) (y - 1) (cond (ltb day next) y (y + 1))

-- the civil year of a day that the weeks of a coded year hold
abbrev pub civil_year : ℕ → ℕ → ℕ
civil_year coded day = year_around coded (new_year coded) (new_year (coded + 1)) day
