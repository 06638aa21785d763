-- When years begin: each after the days of the last, and inside the calendar every fourth is leap, so that start days have a closed form.
-- Assumes nothing.
use Prim.Native.Nat.{ℕ, zero, suc, ◌+◌, ◌*◌, ◌-◌, ◌/◌, ◌%◌, ◌≤◌, ◌<◌}
use native.Mathlib.Omega.{arith}
use mathlib.Core.Path.{◌≡◌, refl}
use mathlib.Core.Bool.{Bool, true, false, cond}
use mathlib.Core.Logic.{◌⊎◌, inl, inr}
use borrow.Author.Tests.{eqb-true, eqb-false}
use lib.Dec.{eqb}
use Rattle.record.proofs.Tests.{le_or_lt}
use Rattle.calendar.specs.Years.{
  first_year_of_span,
  last_year,
  first_civil_year,
  leap_year,
  year_length,
  days_of_years,
  new_year,
  weekday_after,
  start_day_of,
}

-- the only full century is 2000, which is leap: the century rule does not show
pub leap_four : (y : ℕ) → first_year_of_span ≤ y → y ≤ last_year → leap_year y ≡ eqb (y % 4) 0
unfolding leap_year
leap_four y a b = by (eqb (y % 100) 0) refl
  where
    by : (t : Bool) → eqb (y % 100) 0 ≡ t → cond t (eqb (y % 400) 0) (eqb (y % 4) 0) ≡ eqb (y % 4) 0
    by true e = let z : y % 100 ≡ 0 = eqb-true (y % 100) 0 e in let k : y ≡ 2000 = omega arith in rw k
    by false e = refl

pub year_range : (leap : Bool) → (365 ≤ year_length leap) × (year_length leap ≤ 366)
year_range true = (omega arith, omega arith)
year_range false = (omega arith, omega arith)

-- a year begins after the days of the last
pub year_next : (y : ℕ) → first_civil_year ≤ y → new_year (y + 1) ≡ new_year y + year_length (leap_year y)
unfolding days_of_years
year_next y a =
    let e : y + 1 - 1900 ≡ suc (y - 1900) = omega arith in
    let w : 1900 + (y - 1900) ≡ y = omega arith in
    rw (e, w)

pub year_rises : (y : ℕ) → new_year y ≤ new_year (y + 1)
unfolding days_of_years
year_rises y = by (le_or_lt 1900 y)
  where
    by : (1900 ≤ y) ⊎ (y < 1900) → new_year y ≤ new_year (y + 1)
    by (inl h) = omega (arith, year_next y h)
    by (inr h) = let e : y - 1900 ≡ 0 = omega arith in let f : y + 1 - 1900 ≡ 0 = omega arith in rw (e, f) (omega arith)

pub days_most : (n : ℕ) → days_of_years n ≤ 366 * n
unfolding days_of_years
days_most zero = omega arith
days_most (suc n) = omega (arith, days_most n, (year_range (leap_year (1900 + n))).1)

-- a year has a day more than 365 where one more leap day is counted to its end than to the end of the last
leap_day : (last y : ℕ) → last + 1 ≡ y → year_length (leap_year y) + last / 4 + last / 400 + y / 100 ≡ 365 + y / 4 + y / 400 + last / 100
unfolding leap_year
leap_day last y e = by (eqb (y % 100) 0) (eqb (y % 400) 0) (eqb (y % 4) 0) refl refl refl
  where
    one_more : (a b c : ℕ) → 366 + a + b + c ≡ 365 + (a + 1) + b + c
    one_more a b c = omega arith

    by :
        (hundred fourHundred four : Bool) →
        eqb (y % 100) 0 ≡ hundred →
        eqb (y % 400) 0 ≡ fourHundred →
        eqb (y % 4) 0 ≡ four →
        year_length (cond hundred fourHundred four) + last / 4 + last / 400 + y / 100 ≡ 365 + y / 4 + y / 400 + last / 100
    by true true four a b c = omega (arith, eqb-true (y % 100) 0 a, eqb-true (y % 400) 0 b)
    by true false four a b c = let z : y % 400 ≡ 0 → ⊥ = eqb-false (y % 400) 0 b in omega (arith, eqb-true (y % 100) 0 a)
    by false fourHundred true a b c =
        let z : y % 100 ≡ 0 → ⊥ = eqb-false (y % 100) 0 a in
        let hundreds : y / 100 ≡ last / 100 = omega arith in
        let fourHundreds : y / 400 ≡ last / 400 = omega arith in
        let fours : y / 4 ≡ last / 4 + 1 = omega (arith, eqb-true (y % 4) 0 c) in
        rw (fours, hundreds, fourHundreds) (one_more (last / 4) (last / 400) (last / 100))
    by false fourHundred false a b c =
        let z : y % 4 ≡ 0 → ⊥ = eqb-false (y % 4) 0 c in
        let hundreds : y / 100 ≡ last / 100 = omega arith in
        let fourHundreds : y / 400 ≡ last / 400 = omega arith in
        let fours : y / 4 ≡ last / 4 = omega arith in
        rw (fours, hundreds, fourHundreds)

-- the days of the years from 1900 on, before which 460 leap days are counted
pub days_closed : (n : ℕ) → days_of_years n + (1899 + n) / 100 + 460 ≡ 365 * n + (1899 + n) / 4 + (1899 + n) / 400
unfolding days_of_years
days_closed zero = refl
days_closed (suc n) =
    let year : 1900 + n ≡ 1899 + suc n = omega arith in
    rw year
    (add (days_of_years n) ((1899 + n) / 4) ((1899 + n) / 400) ((1899 + n) / 100) _ _ _ _ (days_closed n)
    (leap_day (1899 + n) (1899 + suc n) (omega arith)))
  where
    add :
        (days fours fourHundreds hundreds fours' fourHundreds' hundreds' year : ℕ) →
        days + hundreds + 460 ≡ 365 * n + fours + fourHundreds →
        year + fours + fourHundreds + hundreds' ≡ 365 + fours' + fourHundreds' + hundreds →
        days + year + hundreds' + 460 ≡ 365 * suc n + fours' + fourHundreds'
    add days fours fourHundreds hundreds fours' fourHundreds' hundreds' year e f = omega arith

-- inside the calendar only every fourth counts
calendar_closed : (y : ℕ) → first_year_of_span ≤ y → y ≤ last_year → new_year y ≡ 365 + 365 * (y - first_year_of_span) + (y - first_year_of_span) / 4
calendar_closed y a b =
    let last : 1899 + (y - 1900) ≡ y - 1 = omega arith in
    let years : 365 * (y - 1900) ≡ 365 + 365 * (y - 1901) = omega arith in
    let hundreds : (y - 1) / 100 ≡ (y - 1) / 400 + 15 = omega arith in
    let fours : (y - 1) / 4 ≡ (y - 1901) / 4 + 475 = omega arith in
    cancel _ ((y - 1) / 400) _ _ (rw (last, years, hundreds, fours) at (days_closed (y - 1900)))
  where
    cancel : (days c q n : ℕ) → days + (c + 15) + 460 ≡ n + (q + 475) + c → days ≡ n + q
    cancel days c q n e = omega arith

pub start_range : (y : ℕ) → (1 ≤ start_day_of y) × (start_day_of y ≤ 7)
unfolding start_day_of
start_range y = omega arith

-- inside the calendar a year moves the start day by one, a leap year by one more
pub start_closed : (y : ℕ) → first_year_of_span ≤ y → y ≤ last_year → start_day_of y ≡ (y - first_year_of_span + (y - first_year_of_span) / 4 + 1) % 7 + 1
unfolding start_day_of
start_closed y a b = rw (calendar_closed y a b) (omega arith)

-- from one year to the next the start day goes on by the days of the year
pub start_next : (y : ℕ) → first_civil_year ≤ y → start_day_of (y + 1) ≡ weekday_after (year_length (leap_year y)) (start_day_of y)
unfolding start_day_of
start_next y a = omega (arith, year_next y a)
