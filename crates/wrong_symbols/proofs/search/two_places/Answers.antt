-- `two_places` meets its contract: its three products are those of the field.
-- Assumes nothing.
use Rattle.wrong_symbols.specs.Search.{two_places}
use Rattle.wrong_symbols.proofs.search.two_places.Goals as goal

pub returns : goal.returns
unfolding two_places
returns c = rw (c.times.ensures, c.times-2.ensures, c.times-3.ensures)
