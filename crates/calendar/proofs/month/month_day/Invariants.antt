-- `calendar::month::month_day` meets its contract. The loop's invariant: the days left from this month on give the whole.
-- Assumes nothing.
use Rattle.std.proofs.Common.{◌≡◌, ◌-◌, drop}
use Rattle.calendar.specs.Days.{months, month_from}
use Rattle.calendar.proofs.month.month_day.Given as goal

abbrev pub invariant-loop-month : goal.invariant-loop-month
invariant-loop-month l = month_from (drop (l.month - 1) (months l.leap)) l.month l.left ≡ month_from (months l.leap) 1 l.day
