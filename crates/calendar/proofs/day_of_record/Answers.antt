-- `calendar::day_of_record` meets its contract: the weeks and days since the Monday of week 1.
-- Assumes nothing.
use Prim.Native.Nat.{◌-◌}
use native.Mathlib.Omega.{arith}
use Rattle.record.proofs.Bounds.{bounds}
use Rattle.calendar.proofs.Years.{days_most}
use Rattle.calendar.proofs.day_of_record.Goals as goal

pub overflow_sub-weeks : goal.overflow_sub-weeks
overflow_sub-weeks c = omega (arith, (bounds _ c.args.ranged.are_in_range).week)

pub overflow_add-result : goal.overflow_add-result
overflow_add-result c = omega (arith, c.week_one.ensures, days_most (c.args.coded - 1900))

pub overflow_sub-result : goal.overflow_sub-result
overflow_sub-result c = omega (arith, (bounds _ c.args.ranged.are_in_range).weekday)

pub overflow_add-result-2 : goal.overflow_add-result-2
overflow_add-result-2 c = omega (arith, c.week_one.ensures, days_most (c.args.coded - 1900))
