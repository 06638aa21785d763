-- `calendar::next_minute` meets its contract: a usable record goes on, and a refusal stays.
-- Assumes nothing.
use mathlib.Core.Path.{sym, ◌∙◌}
use Rattle.calendar.proofs.Answers.{usable_given}
use Rattle.calendar.proofs.next_minute.Goals as goal

pub invariant_of-ranged : goal.invariant_of-ranged
invariant_of-ranged c = record { are_in_range = (usable_given _ _ _ (sym c.usable.ensures ∙ c.in_ok-usable.was)).1.in_range }
