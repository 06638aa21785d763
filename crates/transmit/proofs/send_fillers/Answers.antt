-- `send_fillers` meets its contract: each turn sends one block more.
-- Assumes nothing.
use Rattle.std.proofs.Common.{refl}
use Rattle.transmit.specs.Blocks.{after_blocks}
use Rattle.transmit.proofs.Sending.{one_more}
use Rattle.transmit.proofs.send_fillers.Goals as goal

pub loop-init : goal.loop-init
unfolding after_blocks
loop-init g c = refl

pub loop-preserved : goal.loop-preserved
loop-preserved g c = one_more _ c.args.start c.loop.invariant c.in_ok-left.ensures
