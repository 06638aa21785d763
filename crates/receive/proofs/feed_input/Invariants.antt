-- `feed_input` meets its contract: from turn to turn what is kept is what was kept before any bit, fed with some bits.
-- Assumes nothing.
use Rattle.receive.specs.Totals.{fresh_kept, FedOn}
use Rattle.receive.proofs.feed_input.Given as goal

abbrev pub invariant-loop : goal.invariant-loop
invariant-loop g l = FedOn fresh_kept l.kept
