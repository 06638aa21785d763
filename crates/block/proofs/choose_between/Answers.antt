-- `choose_between` meets its contract: it is the choice between what the two slices read as.
-- Assumes nothing.
use Rattle.block.specs.Choose.{choice_of}
use Rattle.block.proofs.choose_between.Goals as goal

pub returns : goal.returns
unfolding choice_of
returns c = rw (c.between.ensures, c.read_block.ensures, c.read_block-2.ensures)
