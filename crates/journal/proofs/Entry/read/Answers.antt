-- `Entry::read` meets its contract: the two numbers are those of the entry.
-- Assumes nothing.
use Rattle.journal.proofs.Sixteens.{entry_read}
use Rattle.journal.proofs.Entry.read.Goals as goal

pub returns : goal.returns
returns c = entry_read c.args.bytes.now c.requires c.number_of.ensures c.number_of-2.ensures
