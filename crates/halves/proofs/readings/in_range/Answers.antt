-- `in_range` meets its contract: the bounds that the code names by their patterns are 45 degrees either way.
-- Assumes nothing.
use mathlib.Core.Path.{refl}
use lib.Ieee.{of_bits, of_int}
use Rattle.halves.specs.Readings.{in_range}
use Rattle.halves.proofs.readings.in_range.Goals as goal

pub returns : goal.returns
unfolding in_range of_bits of_int
returns c = refl
