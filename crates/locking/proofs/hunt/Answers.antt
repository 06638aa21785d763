-- `hunt` meets its contract. The goal is named, so that a wrong answer is refused at its own fact.
-- Assumes nothing.
use Rattle.locking.specs.Modes.{hunted}
use Rattle.locking.proofs.hunt.Goals as goal

pub returns-in-Ok : goal.returns-in-Ok
unfolding hunted
returns-in-Ok c = rw (c.good_block.ensures, c.trying.ensures, c.in-Ok.is)
