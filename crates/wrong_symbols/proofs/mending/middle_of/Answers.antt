-- `middle_of` meets its contract: the products, one by one.
-- Assumes nothing.
use mathlib.Core.Path.{ap, ap₂, ◌∙◌}
use Prim.Native.Nat.{ℕ}
use lib.Bits.{bit_xor}
use Rattle.field16.specs.Field.{times, inverse_of}
use Rattle.wrong_symbols.proofs.mending.middle_of.Goals as goal

pub returns : goal.returns
returns c =
    let a = c.args in
    c.over.ensures
    ∙ ap₂ (λ (m n : ℕ). times (bit_xor a.t m) (inverse_of n))
    (c.times-2.ensures ∙ ap (times a.last) c.times.ensures) c.times-3.ensures
