-- `record::six_of` meets its contract: a negative number is 64 more, any other itself.
-- Assumes nothing.
use Rattle.record.proofs.Offset.{negative, positive}
use Rattle.record.proofs.six_of.Goals as goal

pub overflow_cast-result : goal.overflow_cast-result
overflow_cast-result c = (negative c.ranges.offset c.requires c.if-offset-lt0.true).1.0

pub returns-then-offset-lt0 : goal.returns-then-offset-lt0
returns-then-offset-lt0 c = (negative c.ranges.offset c.requires c.if-offset-lt0.true).1.1

pub returns-else-offset-lt0 : goal.returns-else-offset-lt0
returns-else-offset-lt0 c = (positive c.ranges.offset c.requires c.if-offset-lt0.false).1
