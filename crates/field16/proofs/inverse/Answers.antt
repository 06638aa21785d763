-- `inverse` meets its contract: the checker computes the sixteen answers.
-- Assumes nothing.
use Prim.Native.Nat.{ℕ, ◌*◌, ◌/◌, ◌%◌, ◌^◌}
use lib.Dec.{eqb, eqb→eq}
use Rattle.block.proofs.Below.{at_below}
use Rattle.field16.specs.Field.{inverse_of}
use Rattle.field16.proofs.inverse.Goals as goal

abbrev result : ℕ → ℕ
result y = 0x834a5c2f67bde910 / 2 ^ (y * 4) % 16

pub returns : goal.returns
unfolding inverse_of
returns c =
    let y = c.args.y in
    eqb→eq (result y) (inverse_of y) (at_below 16 (λ y. eqb (result y) (inverse_of y)) tt y c.requires)
