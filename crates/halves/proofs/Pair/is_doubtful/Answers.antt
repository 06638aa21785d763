-- `Pair::is_doubtful` meets its contract: it makes the two tests of the definition.
-- Assumes nothing.
use Rattle.halves.specs.Decision.{doubtful}
use Rattle.halves.proofs.Pair.is_doubtful.Goals as goal

pub returns : goal.returns
unfolding doubtful
returns c = rw c.within.ensures
