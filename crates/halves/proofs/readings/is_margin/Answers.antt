-- `is_margin` meets its contract: the bounds that the code names by their patterns are 0 and 90 degrees.
-- Assumes nothing.
use mathlib.Core.Path.{refl}
use lib.Ieee.{of_bits, of_int}
use Rattle.halves.specs.Readings.{is_margin}
use Rattle.halves.proofs.readings.is_margin.Goals as goal

pub returns : goal.returns
unfolding is_margin of_bits of_int
returns c = refl
