-- `calendar::date_of_record` meets its contract: the first year, then the record, each with its refusal.
-- Assumes nothing.
use mathlib.Core.Path.{sym, ◌∙◌}
use Rattle.record.proofs.Tests.{between}
use Rattle.calendar.proofs.Answers.{usable_given, usable_is}
use Rattle.calendar.proofs.date_of_record.Goals as goal

pub in_span-requires : goal.in_span-requires
in_span-requires c =
    let year = between 1901 _ 2072 (sym c.may_be_first.ensures ∙ c.if-may_be_first.true) in
    (year.0, year.1, usable_is _ _ (usable_given _ _ _ (sym c.usable.ensures ∙ c.in_ok-usable.was)).1)
