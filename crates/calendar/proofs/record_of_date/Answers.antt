-- `calendar::record_of_date` meets its contract: the tests count in the order of the definition.
-- Assumes nothing.
use mathlib.Core.Path.{sym, ◌∙◌}
use Rattle.record.proofs.Tests.{between}
use Rattle.calendar.specs.Dates.{record_of}
use Rattle.calendar.proofs.record_of_date.Goals as goal

pub invariant_of-civil : goal.invariant_of-civil
invariant_of-civil c =
    let year = between 1900 _ 2100 (sym c.within-in_civil_years.ensures ∙ c.if-in_civil_years.true) in
    record { in_years = (year.0, year.1); are_in_range = sym c.date_in_range-in_range.ensures ∙ c.if-in_range.true }

pub returns-else-in_range : goal.returns-else-in_range
unfolding record_of
returns-else-in_range c =
    rw (← c.within-in_civil_years.ensures, c.if-in_civil_years.true, ← c.date_in_range-in_range.ensures, c.if-in_range.false)

pub returns-else-in_civil_years : goal.returns-else-in_civil_years
unfolding record_of
returns-else-in_civil_years c = rw (← c.within-in_civil_years.ensures, c.if-in_civil_years.false)
