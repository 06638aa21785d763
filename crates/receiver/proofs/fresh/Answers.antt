-- `fresh` meets its contract: the fresh packed state, unpacked.
-- Assumes nothing.
use mathlib.Core.Path.{ap, ◌∙◌}
use Rattle.block.specs.Bits.{bits_of}
use Rattle.receiver.specs.States.{fresh_of}
use Rattle.receiver.specs.Packed.{unpacked}
use Rattle.receiver.proofs.fresh.Goals as goal

pub returns : goal.returns
unfolding fresh_of bits_of
returns c = c.from.ensures ∙ ap unpacked c.fresh_packed.ensures
