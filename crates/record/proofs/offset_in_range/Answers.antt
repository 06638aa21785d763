-- `record::offset_in_range` meets its contract: the byte is read as the number that it holds.
-- Assumes nothing.
use Rattle.record.proofs.Offset.{in_yes, in_no}
use Rattle.record.proofs.offset_in_range.Goals as goal

pub returns-then-offset-geminus32 : goal.returns-then-offset-geminus32
returns-then-offset-geminus32 c = in_yes c.ranges.offset c.if-offset-geminus32.true

pub returns-else-offset-geminus32 : goal.returns-else-offset-geminus32
returns-else-offset-geminus32 c = rw c.if-offset-geminus32.false (in_no c.ranges.offset c.if-offset-geminus32.false)
