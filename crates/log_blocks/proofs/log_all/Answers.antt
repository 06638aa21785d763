-- `log_all` meets its contract: each turn hears one bit more.
-- Assumes nothing.
use Rattle.std.proofs.Common.{◌∙◌, drop_of_length-le}
use Rattle.log_blocks.specs.Log.{kept_after}
use Rattle.log_blocks.proofs.Logging.{heard_more}
use Rattle.log_blocks.proofs.log_all.Goals as goal

pub loop-bit-preserved : goal.loop-bit-preserved
loop-bit-preserved g c =
    heard_more c.loop-bit.kept c.args.bits.now c.loop-bit.bit-index c.loop-bit-test.true c.hear-heard.ensures ∙ c.loop-bit.invariant

pub returns : goal.returns
unfolding kept_after
returns g c = rw (drop_of_length-le _ c.loop-bit-test.false) at c.loop-bit.invariant
