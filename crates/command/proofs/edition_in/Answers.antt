-- `edition_in` meets its contract: it is the edition that the argument names.
-- Assumes nothing.
use Rattle.command.specs.Asked.{named}
use Rattle.command.proofs.edition_in.Goals as goal

pub returns : goal.returns
returns g c = rw c.edition_of.ensures (named _)
