-- `run_packed` meets its contract: it is the run that ends with its last bit.
-- Assumes nothing.
use mathlib.Core.Path.{ap, ◌∙◌}
use Rattle.receiver.specs.declared.Stretch.{Stretch}
use Rattle.receiver.proofs.Changes.{all_run}
use Rattle.receiver.proofs.run_packed.Goals as goal

pub returns : goal.returns
returns c = ap (λ (r : Stretch). r.ran) c.run_until-all.ensures ∙ all_run _ _ _
