-- `calendar::week::week_one` meets its contract: the Monday of the week that holds 4 January.
-- Assumes nothing.
use Prim.Native.Nat.{◌-◌}
use native.Mathlib.Omega.{arith}
use Rattle.calendar.proofs.Years.{days_most}
use Rattle.calendar.proofs.week.week_one.Goals as goal

pub overflow_add-fourth : goal.overflow_add-fourth
overflow_add-fourth c = omega (arith, c.new_year-fourth.ensures, days_most (c.args.year - 1900))
