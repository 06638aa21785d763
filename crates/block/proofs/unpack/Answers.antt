-- `unpack` meets its contract: the two refusals, and the bits of the number.
-- Assumes nothing.
use borrow.Author.Tests.{eq-eqb, lt-ltb}
use mathlib.Core.Path.{◌≡◌, ap, ◌∙◌}
use Prim.Native.Nat.{ℕ, ◌^◌}
use native.Mathlib.Omega.{arith}
use lib.ListN.{length}
use Rattle.block.specs.Bits.{bits_of}
use Rattle.block.proofs.unpack.Goals as goal

pub returns : goal.returns
returns c =
    let a = c.args in
    let l : length a.out.now ≡ 50 = omega arith in
    let e = eq-eqb (length a.out.now) 50 l in
    let w = lt-ltb a.block (2 ^ 50) (omega arith) in
    (rw (e, w), rw (e, w) (c.store.ensures ∙ ap (λ (n : ℕ). bits_of n a.block) l))
