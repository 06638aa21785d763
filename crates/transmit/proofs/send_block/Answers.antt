-- `send_block` meets its contract: what is left is what `after` answers.
-- Assumes nothing.
use Rattle.transmit.specs.Blocks.{after_blocks}
use Rattle.transmit.proofs.send_block.Goals as goal

pub returns : goal.returns
unfolding after_blocks
returns g c = c.after.ensures
