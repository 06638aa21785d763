-- `Window::of` meets its contract: the places not in use are 0, so nothing is lost below, and zeros in front leave nothing. Where nothing
-- waits nothing is left.
-- Assumes nothing.
use mathlib.Core.Path.{◌≡◌, ◌∙◌}
use Prim.Native.Nat.{◌/◌, ◌^◌, ◌<◌}
use native.Mathlib.Omega.{arith}
use Rattle.block.specs.Bits.{bits_of}
use Rattle.block.specs.Division.{remainder_from, remainder}
use Rattle.receiver.proofs.Numbers.{window_lt}
use Rattle.receiver.proofs.Turning.{begun}
use Rattle.receiver.proofs.windows.Window.of.Goals as goal
use Rattle.receiver.proofs.windows.Window.of.Goals.{then-waiting-gt0, else-waiting-gt0}

pub invariant_of-result : goal.invariant_of-result
unfolding bits_of remainder_from
invariant_of-result c =
    let p = c.args.state in
    let few : p.bits / c.weight.result < 2 ^ p.waiting = rw c.weight.ensures (window_lt p.waiting p.bits (omega arith) c.requires.1) in
    let left : c.if-waiting-gt0.register ≡ remainder (bits_of p.waiting (p.bits / c.weight.result)) =
    elim c.if-waiting-gt0.branch [
      | then-waiting-gt0 w ↦ w.register-is ∙ begun p.waiting _ _ c.requires.0 few w.remainder-register.ensures
      | else-waiting-gt0 w ↦ let none : p.waiting ≡ 0 = omega (arith, w.if-waiting-gt0.false) in rw (w.register-is, none)
    ] in
    record { room = omega arith; few = few; turned = left }
