-- A pair of readings is the definition's. Said outright, so that a wrong program is refused for what differs.
-- Assumes nothing.
use Rattle.std.proofs.Common.{refl}
use Rattle.halves.proofs.pairs.PairFromArrayF322.from.Goals as goal

pub returns : goal.returns
returns c = refl
