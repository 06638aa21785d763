-- `Window::move_on` meets its contract: what is left without the first bit is what the others leave.
-- Assumes nothing.
use mathlib.Core.Path.{sym, ap, ◌∙◌}
use native.Mathlib.Nat.{mod-lt}
use native.Mathlib.Omega.{arith}
use lib.Pow.{pow_pos}
use Rattle.block.specs.Division.{remainder}
use Rattle.block.proofs.Strings.{bits_of_mod}
use Rattle.receiver.proofs.windows.Window.move_on.Goals as goal

pub invariant_of-result : goal.invariant_of-result
invariant_of-result c =
    let v = c.args.self.bits in
    record { room = omega arith; few = mod-lt v (pow_pos 49); turned = c.requires ∙ sym (ap remainder (bits_of_mod 49 v)) }
