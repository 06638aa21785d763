-- `turn_back` meets its contract: it undoes a turn.
-- Assumes nothing.
use Rattle.mending.proofs.Backwards.{back}
use Rattle.mending.proofs.search.turn_back.Goals as goal

pub returns : goal.returns
returns c = back c.args.register c.requires
