-- `minors_in` meets its contract, by that of `minor`.
-- Assumes nothing.
use Rattle.wrong_symbols.proofs.search.minors_in.Goals as goal

pub returns : goal.returns
returns c = rw (c.minor.ensures, c.minor-2.ensures, c.minor-3.ensures)
