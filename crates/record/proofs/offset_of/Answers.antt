-- `record::offset_of` meets its contract: below 32 the bits are the number, from 32 on it is 64 less.
-- Assumes nothing.
use mir.Facts.{to_z-of_z}
use Rattle.record.proofs.Offset.{low, high, offset_fits}
use Rattle.record.proofs.offset_of.Goals as goal

pub returns-then-six-lt32 : goal.returns-then-six-lt32
returns-then-six-lt32 c = low _ c.if-six-lt32.true

pub returns-else-six-lt32 : goal.returns-else-six-lt32
returns-else-six-lt32 c = rw (high _ c.if-six-lt32.false c.requires) (to_z-of_z (offset_fits _ c.requires))
