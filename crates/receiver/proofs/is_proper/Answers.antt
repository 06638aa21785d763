-- `is_proper` meets its contract. The goals are named, so that a wrong test is refused at its own fact.
-- Assumes nothing.
use borrow.Author.Tests.{lt-ltb, le-ltb, eq-eqb}
use mathlib.Core.Path.{◌≡◌}
use Prim.Native.Nat.{◌-◌, ◌%◌, ◌^◌}
use native.Mathlib.Omega.{arith}
use Rattle.receiver.specs.States.{proper_of}
use Rattle.receiver.specs.Packed.{packed_proper}
use Rattle.receiver.proofs.Numbers.{proper_number}
use Rattle.receiver.proofs.is_proper.Goals as goal

pub returns-then-waiting-gt49 : goal.returns-then-waiting-gt49
unfolding packed_proper proper_of
returns-then-waiting-gt49 c =
    let state = c.args.state in
    rw (lt-ltb state.bits (2 ^ 50) (omega arith), le-ltb state.waiting 50 c.if-waiting-gt49.true)

pub returns-then-bits-weight-eq0 : goal.returns-then-bits-weight-eq0
unfolding packed_proper proper_of
returns-then-bits-weight-eq0 c =
    let state = c.args.state in
    let none : state.bits % 2 ^ (50 - state.waiting) ≡ 0 = rw c.weight.ensures at c.if-bits-weight-eq0.true in
    rw (
      lt-ltb state.bits (2 ^ 50) (omega arith),
      lt-ltb state.waiting 50 (omega arith),
      proper_number state.waiting state.bits (omega arith),
      eq-eqb (state.bits % 2 ^ (50 - state.waiting)) 0 none,
      c.is_proper.ensures,
      c.lock_in.ensures,
    )
