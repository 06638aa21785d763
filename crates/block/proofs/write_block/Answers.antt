-- `write_block` meets its contract: each return is the answer of the tests that led there, and the bits are those of the number.
-- Assumes nothing.
use borrow.Author.Tests.{eq-eqb, lt-ltb}
use mathlib.Core.Path.{sym, ◌∙◌}
use Prim.Native.Nat.{◌^◌}
use native.Mathlib.Omega.{arith}
use lib.ListN.{length}
use Rattle.block.proofs.Packing.{writes}
use Rattle.block.proofs.write_block.Goals as goal

pub returns : goal.returns
returns c =
    let a = c.args in
    let w = writes a.code a.word _ (sym c.write_packed.ensures ∙ c.in_ok-write_packed.was) in
    let e = eq-eqb (length a.out.now) 50 (omega arith) in
    let f = lt-ltb c.in_ok-write_packed.field-0 (2 ^ 50) w.1 in
    (rw (c.unpack.ensures.0, e, f, w.0), rw (c.unpack.ensures.1, e, f, w.0) w.2)
