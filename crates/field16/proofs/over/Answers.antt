-- `over` meets its contract: the product with one over the divisor's lowest four bits.
-- Assumes nothing.
use mathlib.Core.Path.{ap, ◌∙◌}
use Rattle.field16.specs.Field.{times}
use Rattle.field16.proofs.Elements.{inverse_low}
use Rattle.field16.proofs.over.Goals as goal

pub returns : goal.returns
returns c =
    let a = c.args in
    c.times.ensures ∙ ap (times a.y) (c.inverse.ensures ∙ inverse_low a.x)
