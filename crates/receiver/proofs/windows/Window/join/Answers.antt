-- `Window::join` meets its contract: a bit at the end turns the circuit once.
-- Assumes nothing.
use Prim.Native.Nat.{◌+◌, ◌*◌}
use native.Mathlib.Omega.{arith}
use Rattle.block.proofs.Strings.{thirteen}
use Rattle.receiver.proofs.Turning.{one_more, turned}
use Rattle.receiver.proofs.windows.Window.join.Goals as goal

pub overflow_cast-result-2 : goal.overflow_cast-result-2
overflow_cast-result-2 c =
    let w = c.args.self in
    let bit = c.args.bit in
    omega (arith, thirteen (w.waiting + 1) (w.bits * 2 + bit) (turned w.waiting w.bits bit c.requires.1 w.register _ w.turned c.turn.ensures))

pub invariant_of-result : goal.invariant_of-result
invariant_of-result c =
    let w = c.args.self in
    let bit = c.args.bit in
    record {
      room = omega arith;
      few = one_more w.waiting w.bits bit c.requires.1 w.few;
      turned = turned w.waiting w.bits bit c.requires.1 w.register _ w.turned c.turn.ensures;
    }
