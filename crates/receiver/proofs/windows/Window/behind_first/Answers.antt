-- `Window::behind_first` meets its contract: a first bit of 0 has put nothing into the register, and a 1 what x^49 leaves.
-- Assumes nothing.
use mathlib.Core.Path.{ap, ◌∙◌}
use native.Mathlib.Omega.{arith}
use lib.Bits.{bit_xor, xor_zero_r}
use Rattle.receiver.proofs.First.{behind_0, behind_1, fifty}
use Rattle.receiver.proofs.windows.Window.behind_first.Goals as goal
use Rattle.receiver.proofs.windows.Window.behind_first.Goals.{then-self-lt562949953421312, else-self-lt562949953421312}

pub returns : goal.returns
returns c =
    let w = c.args.self in
    let f = fifty w c.requires in
    elim c.if-self-lt562949953421312.branch [
      | then-self-lt562949953421312 low ↦
          ap (bit_xor w.register) low.part-is ∙ xor_zero_r w.register ∙ behind_0 w.bits w.register f.0 f.1 (omega (arith, low.if-self-lt562949953421312.true))
      | else-self-lt562949953421312 high ↦
          ap (bit_xor w.register) high.part-is ∙ behind_1 w.bits w.register f.0 f.1 (omega (arith, high.if-self-lt562949953421312.false))
    ]
