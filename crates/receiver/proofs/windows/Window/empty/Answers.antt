-- `Window::empty` meets its contract: nothing leaves nothing.
-- Assumes nothing.
use native.Mathlib.Omega.{arith}
use Rattle.receiver.proofs.Turning.{nothing_in}
use Rattle.receiver.proofs.windows.Window.empty.Goals as goal

pub invariant_of-result : goal.invariant_of-result
invariant_of-result c = record { room = omega arith; few = omega arith; turned = nothing_in }
