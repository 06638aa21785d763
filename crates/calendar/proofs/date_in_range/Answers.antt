-- `calendar::date_in_range` meets its contract: each test decides some of the fields.
-- Assumes nothing.
use native.Mathlib.Omega.{arith}
use mathlib.Core.Path.{sym, ap, ◌∙◌}
use Rattle.record.specs.Ranges.{time_in_range}
use Rattle.record.proofs.Tests.{between}
use Rattle.record.proofs.Offset.{back}
use Rattle.calendar.specs.Dates.{date_in_range}
use Rattle.calendar.proofs.date_in_range.Goals as goal

pub month_length-length-requires : goal.month_length-length-requires
month_length-length-requires c =
    between 1 _ 12 (sym c.within.ensures ∙ c.if-within.true)

pub returns-then-within-2 : goal.returns-then-within-2
unfolding date_in_range
returns-then-within-2 c =
    rw (
      ← c.within.ensures,
      c.if-within.true,
      ← c.is_leap.ensures,
      ← c.month_length-length.ensures,
      ← c.within-then-within.ensures,
      c.if-within-2.true,
    )
    (c.time_in_range.ensures ∙ ap (time_in_range _ _) (back (omega arith)))

pub returns-else-within-2 : goal.returns-else-within-2
unfolding date_in_range
returns-else-within-2 c =
    rw (
      ← c.within.ensures,
      c.if-within.true,
      ← c.is_leap.ensures,
      ← c.month_length-length.ensures,
      ← c.within-then-within.ensures,
      c.if-within-2.false,
    )

pub returns-else-within : goal.returns-else-within
unfolding date_in_range
returns-else-within c = rw (← c.within.ensures, c.if-within.false)
