-- `pair_of` meets its contract: the bytes of one number, and behind them those of the other.
-- Assumes nothing.
use Rattle.big_endian.specs.Digits.{digits}
use Rattle.journal.specs.Entries.{pair_bytes}
use Rattle.log_blocks.proofs.output.pair_of.Goals as goal

pub returns : goal.returns
unfolding digits pair_bytes
returns c = rw (c.store-2.ensures, c.store.ensures)
