-- `count_entries` meets its contract. The loop's invariant: the totals so far and the tally of the entries to come make the whole.
-- Assumes nothing.
use Rattle.reception.proofs.Counting.{Counts}
use Rattle.reception.proofs.Report.count_entries.Given as goal

abbrev pub invariant-loop-entry : goal.invariant-loop-entry
invariant-loop-entry l = Counts l.edition l.bytes l.initial.self l.self l.entry-index
