-- `Watch::remember` meets its contract: the three bits, each by its own rule.
-- Assumes nothing.
use Rattle.watch.specs.Watches.{remembered}
use Rattle.watch.proofs.Watch.remember.Goals as goal

pub returns : goal.returns
unfolding remembered
returns c = rw (c.last_displacement.ensures, c.last_drop.ensures, c.last_loss.ensures)
