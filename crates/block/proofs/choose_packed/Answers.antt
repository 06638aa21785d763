-- `choose_packed` meets its contract: it is the choice between what the two numbers read as.
-- Assumes nothing.
use Rattle.block.proofs.choose_packed.Goals as goal

pub returns : goal.returns
returns c = rw (c.between.ensures, c.read_packed.ensures, c.read_packed-2.ensures)
