-- `may_be` meets its contract: its two products are those of the field.
-- Assumes nothing.
use Rattle.wrong_symbols.specs.Search.{may_be}
use Rattle.wrong_symbols.proofs.search.may_be.Goals as goal

pub returns : goal.returns
unfolding may_be
returns c = rw (c.times-2.ensures, c.times.ensures)
