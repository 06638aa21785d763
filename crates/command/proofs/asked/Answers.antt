-- `asked` meets its contract: that of 1984, the one that is named, or none.
-- Assumes nothing.
use Rattle.command.specs.Asked.{usual, several}
use Rattle.command.proofs.asked.Goals as goal

pub returns-then-count-lt2 : goal.returns-then-count-lt2
returns-then-count-lt2 g c = usual

pub returns-then-count-gt2 : goal.returns-then-count-gt2
returns-then-count-gt2 g c = several
