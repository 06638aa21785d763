-- `log_input` meets its contract: what is fed piece by piece is fed.
-- Assumes nothing.
use Rattle.log_blocks.proofs.Logging.{fed_none, fed_more}
use Rattle.log_blocks.proofs.log_input.Goals as goal

pub loop-init : goal.loop-init
loop-init g c = rw c.fresh-kept.ensures fed_none

pub loop-preserved : goal.loop-preserved
loop-preserved g c = fed_more c.loop.invariant _ c.log_all-logged.ensures

pub returns-then-not-piece : goal.returns-then-not-piece
returns-then-not-piece g c = fed_more c.loop.invariant _ c.log_all-logged.ensures
