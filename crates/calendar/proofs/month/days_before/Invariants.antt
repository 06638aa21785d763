-- `calendar::month::days_before` meets its contract. The loop's invariant: the sum is that of the months before month m.
-- Assumes nothing.
use Prim.Native.Nat.{◌*◌, ◌-◌, ◌≤◌}
use mathlib.Core.Path.{◌≡◌}
use Rattle.calendar.specs.Days.{months, sum_of}
use Rattle.calendar.proofs.month.days_before.Given as goal

abbrev pub invariant-loop-m : goal.invariant-loop-m
invariant-loop-m l = (l.days ≤ 255 * l.m) × (l.days ≡ sum_of (l.m - 1) (months l.leap))
