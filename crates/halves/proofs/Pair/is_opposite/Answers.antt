-- `Pair::is_opposite` meets its contract: the zero that the code names by its pattern is 0 degrees.
-- Assumes nothing.
use mathlib.Core.Path.{refl}
use lib.Ieee.{of_bits, of_int}
use Rattle.halves.specs.Pairs.{opposite}
use Rattle.halves.proofs.Pair.is_opposite.Goals as goal

pub returns : goal.returns
unfolding opposite of_bits of_int
returns c = refl
