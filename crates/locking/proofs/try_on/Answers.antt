-- `try_on` meets its contract. The goal is named, so that a wrong answer is refused at its own fact.
-- Assumes nothing.
use Rattle.locking.specs.Modes.{tried}
use Rattle.locking.proofs.try_on.Goals as goal

pub returns-in-Err : goal.returns-in-Err
unfolding tried
returns-in-Err c = rw (c.bad_block.ensures, c.fresh_lock.ensures, c.in-Err.is)
