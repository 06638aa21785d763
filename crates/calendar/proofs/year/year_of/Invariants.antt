-- `calendar::year::year_of` meets its contract. The loop's invariant: the years left from here give what all 28 give.
-- Assumes nothing.
use Prim.Native.Nat.{◌+◌, ◌-◌}
use mathlib.Core.Path.{◌≡◌}
use Rattle.calendar.specs.Years.{span, year_from}
use Rattle.calendar.proofs.year.year_of.Given as goal

abbrev pub invariant-loop-year : goal.invariant-loop-year
invariant-loop-year l =
    year_from l.edition (l.first_year + span - l.year) l.year l.start_day l.leap ≡ year_from l.edition span l.first_year l.start_day l.leap
