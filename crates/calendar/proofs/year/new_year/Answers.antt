-- `calendar::year::new_year` meets its contract: the closed form of the days of the years.
-- Assumes nothing.
use Prim.Native.Nat.{ℕ, ◌+◌, ◌-◌, ◌/◌, ◌≤◌}
use native.Mathlib.Omega.{arith}
use mathlib.Core.Path.{◌≡◌}
use Rattle.calendar.proofs.Years.{days_closed}
use Rattle.calendar.proofs.year.new_year.Goals as goal

-- the leap days that count are those since 1900
since : (days years fours fourHundreds hundreds : ℕ) →
    days + hundreds + 460 ≡ years + fours + fourHundreds →
    hundreds + 460 ≤ fours + fourHundreds →
    years + (fours + fourHundreds - hundreds - 460) ≡ days
since days years fours fourHundreds hundreds e h = omega arith

pub returns : goal.returns
returns c =
    let y = c.args.year in
    let years : 1899 + (y - 1900) ≡ y - 1 = omega arith in
    let same : y - 1900 ≡ y - 1 - 1899 = omega arith in
    rw same (since _ _ ((y - 1) / 4) ((y - 1) / 400) ((y - 1) / 100) (rw (years, same) at (days_closed (y - 1900))) (omega arith))
