-- `calendar::Date::in_span` meets its contract: one of the 28 years is of the record's kind.
-- Assumes nothing.
use Rattle.std.proofs.Common.{arith, rules, ◌≡◌, ℕ, ◌≤◌, Option, None, Some, IsSome, unwrap_or}
use Rattle.calendar.specs.Dates.{date_in}
use Rattle.calendar.proofs.Answers.{usable_given}
use Rattle.calendar.proofs.DayOfRecord.{has_week, found_kind}
use Rattle.calendar.proofs.Unwrapped.{unwrapped}
use Rattle.calendar.proofs.Date.in_span.Goals as goal

there : (r : Option ℕ) (y : ℕ) → unwrap_or r 0 ≡ y → 1 ≤ y → IsSome r
there None y e h = absurd (omega arith)
there (Some x) y e h = search rules

pub unwrap-coded-requires : goal.unwrap-coded-requires
unwrap-coded-requires c =
    let u = (usable_given _ _ _ c.requires.2).1 in
    let kind = found_kind _ c.args.«record» c.args.first_year c.requires.0 c.requires.1 u in
    there c.year_of.result _ c.year_of.ensures (omega (arith, kind.from))

pub in_year-requires : goal.in_year-requires
in_year-requires c =
    let u = (usable_given _ _ _ c.requires.2).1 in
    let kind = found_kind _ c.args.«record» c.args.first_year c.requires.0 c.requires.1 u in
    rw (unwrapped _ _ _ _ c.unwrap-coded.ensures c.year_of.ensures) (has_week _ _ _ kind u)

pub returns : goal.returns
unfolding date_in
returns c = rw (← unwrapped _ _ _ _ c.unwrap-coded.ensures c.year_of.ensures) c.in_year.ensures
