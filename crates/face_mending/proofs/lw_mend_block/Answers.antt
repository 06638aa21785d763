-- `lw_mend_block` meets its contract: the flat answer of the mending.
-- Assumes nothing.
use Rattle.face_mending.proofs.lw_mend_block.Goals as goal

pub returns : goal.returns
returns c = record { mended = c.mend.result; mends = c.mend.ensures; flat = c.from.ensures }
