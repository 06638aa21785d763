-- `feed_input` meets its contract: from turn to turn the watch is a fresh one that was fed some bits.
-- Assumes nothing.
use Rattle.watch.specs.Watches.{fresh_watch}
use Rattle.why.specs.Told.{FedOn}
use Rattle.why.proofs.feed_input.Given as goal

abbrev pub invariant-loop : goal.invariant-loop
invariant-loop g l = FedOn l.edition fresh_watch l.watch
