-- `is_usable` meets its contract. The goal is named, so that another edition is refused at its own fact.
-- Assumes nothing.
use Rattle.std.proofs.Common.{ap, ◌∙◌, is_ok}
use Rattle.timekeeping.proofs.is_usable.Goals as goal

pub returns : goal.returns
returns c = c.is_ok.ensures.value ∙ ap is_ok c.usable.ensures
