-- `log_input` meets its contract: from turn to turn what is kept is what was kept before any bit, fed with some bits.
-- Assumes nothing.
use Rattle.log_blocks.specs.Log.{fresh_kept, FedOn}
use Rattle.log_blocks.proofs.log_input.Given as goal

abbrev pub invariant-loop : goal.invariant-loop
invariant-loop g l = FedOn fresh_kept l.kept
