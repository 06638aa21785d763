-- The weeks of ISO 8601: whole weeks lead from the Monday of week 1 to the next year's, 53 in the years that the standard names.
-- Assumes nothing.
use Prim.Native.Nat.{ℕ, ◌+◌, ◌*◌, ◌%◌, ◌≤◌}
use native.Mathlib.Omega.{arith}
use mathlib.Core.Path.{◌≡◌, refl}
use mathlib.Core.Bool.{Bool, true, false, cond, ◌&&◌, ◌||◌}
use borrow.Author.Tests.{eqb-true, eqb-false}
use lib.Dec.{eqb}
use Rattle.calendar.specs.Years.{first_civil_year, leap_year, year_length, new_year, start_day_of}
use Rattle.calendar.specs.Weeks.{first_monday, week_one, weeks_of}
use Rattle.calendar.proofs.Years.{year_next, year_rises}

-- a year has 53 weeks if it starts on a Thursday, or is leap and starts on a Wednesday, else 52
pub fifty_three : (leap : Bool) (start : ℕ) → 1 ≤ start → start ≤ 7 → weeks_of leap start ≡ cond (eqb start 4 || (eqb start 3 && leap)) 53 52
unfolding weeks_of
fifty_three leap start a b = by leap (eqb start 4) (eqb start 3) refl refl
  where
    by : (leap thursday wednesday : Bool) → eqb start 4 ≡ thursday → eqb start 3 ≡ wednesday → weeks_of leap start ≡ cond (thursday || (wednesday && leap)) 53 52
    by true true wednesday e f = omega (arith, eqb-true start 4 e)
    by false true wednesday e f = omega (arith, eqb-true start 4 e)
    by true false true e f = omega (arith, eqb-true start 3 f)
    by false false true e f = omega (arith, eqb-true start 3 f)
    by true false false e f = let t : start ≡ 4 → ⊥ = eqb-false start 4 e in let w : start ≡ 3 → ⊥ = eqb-false start 3 f in omega arith
    by false false false e f = let t : start ≡ 4 → ⊥ = eqb-false start 4 e in omega arith

pub weeks_range : (leap : Bool) (start : ℕ) → (52 ≤ weeks_of leap start) × (weeks_of leap start ≤ 53)
unfolding weeks_of
weeks_range true start = (omega arith, omega arith)
weeks_range false start = (omega arith, omega arith)

-- the kind of a year counts its weeks: whole ones lead to the next year's week 1
whole : (new start : ℕ) (leap : Bool) → start ≡ new % 7 + 1 → first_monday (new + year_length leap) ≡ first_monday new + 7 * weeks_of leap start
unfolding weeks_of
whole new start true e = omega arith
whole new start false e = omega arith

pub one_after : (y : ℕ) → first_civil_year ≤ y → week_one (y + 1) ≡ week_one y + 7 * weeks_of (leap_year y) (start_day_of y)
unfolding start_day_of
one_after y a = rw (year_next y a) (whole (new_year y) (start_day_of y) (leap_year y) (omega arith))

pub one_rises : (y : ℕ) → week_one y ≤ week_one (y + 1)
one_rises y = omega (arith, year_rises y)
