-- `last_of` meets its contract: the products, one by one.
-- Assumes nothing.
use mathlib.Core.Path.{ap, ◌∙◌}
use Prim.Native.Nat.{ℕ}
use Rattle.field16.specs.Field.{times, inverse_of}
use Rattle.wrong_symbols.proofs.mending.last_of.Goals as goal

pub returns : goal.returns
returns c =
    let a = c.args in
    c.over.ensures
    ∙ ap (λ (n : ℕ). times a.u (inverse_of n)) (c.times-2.ensures ∙ ap (times a.z) c.times.ensures)
