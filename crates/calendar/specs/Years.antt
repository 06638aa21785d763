-- Years: which are leap, when they begin, and which one is of the kind that a record carries (01, "The time record" and "The calendar";
-- 02, No. 2).
-- Assumes nothing.
use Rattle.std.specs.Prelude.{ℕ, zero, suc, ◌+◌, ◌-◌, ◌%◌, Bool, cond, ◌&&◌, eqb}
use Rattle.record.specs.declared.Edition.{Edition}
use Rattle.calendar.specs.LeapCodes.{leap_code}

-- the calendar's fixed numbers: years from 1901 to 2099 are coded, and a record names one of 28 that begin in 1901 to 2072
abbrev pub first_year_of_span : ℕ
first_year_of_span = 1901

abbrev pub last_first_year : ℕ
last_first_year = 2072

abbrev pub last_year : ℕ
last_year = 2099

abbrev pub span : ℕ
span = 28

-- dates lie in civil years from 1900 to 2100: a week may begin before its year and end after it
abbrev pub first_civil_year : ℕ
first_civil_year = 1900

abbrev pub last_civil_year : ℕ
last_civil_year = 2100

-- the Gregorian rule: a full century is leap where 400 divides it, and any other year where 4 does
unfoldable pub leap_year : ℕ → Bool
leap_year y = cond (eqb (y % 100) 0) (eqb (y % 400) 0) (eqb (y % 4) 0)

-- the days of a year
abbrev pub year_length : Bool → ℕ
year_length leap = cond leap 366 365

-- the days from 1 January 1900 to the 1 January n years later, counted one year after the other
unfoldable pub days_of_years : ℕ → ℕ
days_of_years zero = 0
days_of_years (suc n) = days_of_years n + year_length (leap_year (first_civil_year + n))

-- 1 January of a year. A day is a number: how many days it comes after 1 January 1900, which was a Monday
abbrev pub new_year : ℕ → ℕ
new_year y = days_of_years (y - first_civil_year)

-- the weekday n days after a weekday, of 1 (Monday) to 7
abbrev pub weekday_after : ℕ → ℕ → ℕ
weekday_after n weekday = (weekday - 1 + n) % 7 + 1

-- the weekday of 1 January
unfoldable pub start_day_of : ℕ → ℕ
start_day_of y = weekday_after (new_year y) 1

-- the first of the n years from y on that has this start day and leap code; 0 if none has
unfoldable pub year_from : Edition → ℕ → ℕ → ℕ → ℕ → ℕ
year_from edition zero y start leap = 0
year_from edition (suc n) y start leap =
    cond (eqb (start_day_of y) start && eqb (leap_code edition y) leap) y (year_from edition n (y + 1) start leap)
