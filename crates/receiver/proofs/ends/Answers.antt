-- `ends` meets its contract. The goal is named, so that a wrong change is refused at its own fact.
-- Assumes nothing.
use borrow.Author.Tests.{not-false}
use mathlib.Core.Path.{sym, ◌∙◌}
use Rattle.receiver.specs.Changes.{same_lock, runs_on}
use Rattle.receiver.proofs.ends.Goals as goal

pub returns-else-changes : goal.returns-else-changes
unfolding runs_on
returns-else-changes c =
    let args = c.args in
    rw (c.in-AnyChange.is, not-false (same_lock args.before.mode args.after.mode) (sym c.lock_changes-changes.ensures ∙ c.if-changes.false))
