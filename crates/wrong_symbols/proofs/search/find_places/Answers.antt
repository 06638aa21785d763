-- `find_places` meets its contract: all fifteen places were tried.
-- Assumes nothing.
use Rattle.std.proofs.Common.{arith}
use Rattle.wrong_symbols.proofs.search.find_places.Goals as goal

pub returns : goal.returns
returns c = λ z p h. c.loop-first.invariant z (omega arith) p
