-- `record::time_in_range` meets its contract: where each test passed, the offset decides.
-- Assumes nothing.
use Rattle.std.proofs.Common.{ap, ◌∙◌}
use mir.Facts.{to_z-of_z}
use borrow.Author.Tests.{le-leb}
use Rattle.record.specs.Ranges.{time_in_range, offset_in_range}
use Rattle.record.proofs.time_in_range.Goals as goal

-- named, so that a minute that is let through is refused at its own fact
pub returns-then-minute-le59 : goal.returns-then-minute-le59
unfolding time_in_range
returns-then-minute-le59 c =
    c.offset_in_range.ensures
    ∙ ap offset_in_range (to_z-of_z c.ranges.offset)
    ∙ rw (le-leb c.args.hour 23 c.if-minute-le59.true.0, le-leb c.args.minute 59 c.if-minute-le59.true.1)
