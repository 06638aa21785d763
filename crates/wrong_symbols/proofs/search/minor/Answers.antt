-- `minor` meets its contract: its two products are those of the field.
-- Assumes nothing.
use mathlib.Core.Path.{ap₂}
use lib.Bits.{bit_xor}
use Rattle.wrong_symbols.specs.Search.{minor_of}
use Rattle.wrong_symbols.proofs.search.minor.Goals as goal

pub returns : goal.returns
unfolding minor_of
returns c = ap₂ bit_xor c.times.ensures c.times-2.ensures
