-- The days of a year by month and day (01, "The calendar").
-- Assumes nothing.
use Rattle.std.specs.Prelude.{ℕ, zero, suc, ◌+◌, ◌-◌, Bool, cond, List, [], ◌∷◌, leb, get_or}
use Rattle.calendar.specs.declared.month.MonthDay.{MonthDay}

-- the lengths of the months, January first
abbrev pub months : Bool → List ℕ
months leap = 31 ∷ cond leap 29 28 ∷ 31 ∷ 30 ∷ 31 ∷ 30 ∷ 31 ∷ 31 ∷ 30 ∷ 31 ∷ 30 ∷ 31 ∷ []

-- the length of a month from 1 to 12
abbrev pub month_length : Bool → ℕ → ℕ
month_length leap month = get_or (months leap) (month - 1) 0

-- the sum of the first k of some lengths
unfoldable pub sum_of : ℕ → List ℕ → ℕ
sum_of zero ns = 0
sum_of (suc k) [] = 0
sum_of (suc k) (n ∷ ns) = n + sum_of k ns

-- the day of the year, from 1, of a day of a month
abbrev pub day_of_month : Bool → ℕ → ℕ → ℕ
day_of_month leap month day = sum_of (month - 1) (months leap) + day

abbrev pub month_day : ℕ → ℕ → MonthDay
month_day month day = record { month = month; day = day }

-- the d-th day of months with these lengths, the first of which has the number m; zeros past the last
unfoldable pub month_from : List ℕ → ℕ → ℕ → MonthDay
month_from [] m d = month_day 0 0
month_from (n ∷ ns) m d = cond (leb d n) (month_day m d) (month_from ns (m + 1) (d - n))
