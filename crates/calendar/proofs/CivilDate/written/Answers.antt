-- `calendar::CivilDate::written` meets its contract: the tests come in the order of the definition.
-- Assumes nothing.
use mathlib.Core.Path.{sym, ◌∙◌}
use Rattle.record.proofs.Tests.{between, is_within}
use Rattle.calendar.specs.Dates.{coded_year, record_of}
use Rattle.calendar.proofs.CivilDate.written.Goals as goal

pub record_in-requires : goal.record_in-requires
unfolding coded_year
record_in-requires c =
    let year = between 1901 _ 2099 (sym c.within.ensures ∙ c.if-within.true) in
    (year.0, year.1, rw (← c.week_one-begin.ensures, ← c.week_one-next.ensures, ← c.day-day.ensures) c.year_around-coded.ensures, c.day-day.ensures)

pub returns-then-within : goal.returns-then-within
returns-then-within c = sym c.record_in.ensures

pub returns : goal.returns
unfolding coded_year record_of
returns c =
    rw (
      is_within 1900 _ 2100 c.args.self.in_years.0 c.args.self.in_years.1,
      c.args.self.are_in_range,
      ← c.week_one-begin.ensures,
      ← c.week_one-next.ensures,
      ← c.day-day.ensures,
      ← c.year_around-coded.ensures,
      ← c.within.ensures,
      c.if-within.false,
    )
