-- `check_entries` meets its contract. The loop's invariant: what was found so far, with the entries that are left, is the answer.
-- Assumes nothing.
use Rattle.journal.specs.Order.{least_after}
use Rattle.journal.specs.Salvage.{whole_entries}
use Rattle.journal.proofs.Judging.{Answers}
use Rattle.journal.proofs.entries.check_entries.Given as goal

abbrev pub invariant-loop-seen : goal.invariant-loop-seen
invariant-loop-seen l = Answers (whole_entries l.bytes) l.seen (least_after l.last)
