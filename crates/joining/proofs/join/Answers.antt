-- `join` meets its contract: the tests in their order, and then the definition's own product and sum.
-- Assumes nothing.
use borrow.Author.Tests.{le-leb, lt-leb, le-ltb, lt-ltb}
use Rattle.std.specs.Prelude.{Ok}
use mathlib.Core.Path.{ap, ◌∙◌}
use Prim.Native.Nat.{ℕ}
use native.Mathlib.Omega.{arith}
use lib.Bits.{bit_xor}
use Rattle.joining.specs.Joining.{join_of, times}
use Rattle.joining.proofs.Products.{times_lt}
use Rattle.joining.proofs.Powers.{is_small}
use Rattle.joining.proofs.join.Goals as goal

pub returns-then-length-gt65536 : goal.returns-then-length-gt65536
unfolding join_of
returns-then-length-gt65536 c = rw (lt-leb c.args.length 65536 (omega arith))

pub returns-then-first-gt8191 : goal.returns-then-first-gt8191
unfolding join_of
returns-then-first-gt8191 c =
    let given = c.args in
    rw (le-leb given.length 65536 (omega arith), le-ltb given.first 8192 (omega arith))

pub returns-then-second-gt8191 : goal.returns-then-second-gt8191
unfolding join_of
returns-then-second-gt8191 c =
    let given = c.args in
    rw (le-leb given.length 65536 (omega arith), lt-ltb given.first 8192 (omega arith), le-ltb given.second 8192 (omega arith))

pub times-moved-requires : goal.times-moved-requires
times-moved-requires c = (omega arith, is_small _ c.power_of_x-power.ensures)

pub overflow_cast-result : goal.overflow_cast-result
overflow_cast-result c =
    let given = c.args in
    let power = c.power_of_x-power in
    omega (arith, c.times-moved.ensures, times_lt given.first power.result (is_small _ power.ensures))

pub returns : goal.returns
unfolding join_of
returns c =
    let given = c.args in
    rw (le-leb given.length 65536 (omega arith), lt-ltb given.first 8192 (omega arith), lt-ltb given.second 8192 (omega arith))
    (ap (λ (r : ℕ). Ok (bit_xor r given.second)) (c.times-moved.ensures ∙ ap (times given.first) c.power_of_x-power.ensures))
