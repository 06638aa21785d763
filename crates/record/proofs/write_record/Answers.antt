-- `record::write_record` meets its contract: a record in range has its word.
-- Assumes nothing.
use Rattle.record.specs.Words.{written_of}
use Rattle.record.proofs.write_record.Goals as goal

pub returns-then-in_range : goal.returns-then-in_range
unfolding written_of
returns-then-in_range c = rw (← c.in_range.ensures, c.if-in_range.true, ← c.word_of.ensures)

pub returns-else-in_range : goal.returns-else-in_range
unfolding written_of
returns-else-in_range c = rw (← c.in_range.ensures, c.if-in_range.false)
