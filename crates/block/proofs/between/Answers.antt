-- `between` meets its contract: where neither is good the first is refused as it was.
-- Assumes nothing.
use Rattle.block.proofs.between.Goals as goal

pub returns-in-Err-default : goal.returns-in-Err-default
returns-in-Err-default c = rw (c.in-Err-default.is-0, c.in-Err-default.is-1)
