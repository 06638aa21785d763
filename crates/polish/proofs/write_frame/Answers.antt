-- `write_frame` meets its contract.
-- Assumes nothing.
use Rattle.std.proofs.Common.{sym, ◌∙◌}
use Rattle.polish.proofs.Bounds.{bounds}
use Rattle.polish.proofs.write_frame.Goals as goal

pub body_of-requires : goal.body_of-requires
body_of-requires c = bounds c.args.time (sym c.fits.ensures ∙ c.if-not-fits.false)
