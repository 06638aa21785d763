-- `within` meets its contract: a magnitude is less than the margin where the number lies between the margin's two signs.
-- Assumes nothing.
use mathlib.Core.Path.{sym}
use Rattle.halves.proofs.Magnitude.{between}
use Rattle.halves.proofs.pairs.within.Goals as goal

pub returns : goal.returns
returns c = sym (between c.args.difference c.args.margin)
