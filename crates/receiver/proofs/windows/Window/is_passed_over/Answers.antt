-- `Window::is_passed_over` meets its contract: a window is a good block where it starts with 1 and leaves what that 1 leaves.
-- Assumes nothing.
use borrow.Author.Tests.{eq-eqb}
use native.Mathlib.Omega.{arith}
use Rattle.receiver.proofs.First.{fifty, is_good_lem, is_not}
use Rattle.receiver.proofs.windows.Window.is_passed_over.Goals as goal

pub returns-then-start-self : goal.returns-then-start-self
returns-then-start-self c =
    let w = c.args.self in
    let f = fifty w c.requires in
    rw (eq-eqb c.args.mode 0 (omega arith), is_good_lem w.bits w.register f.0 f.1 c.if-start-self.true)

pub returns : goal.returns
returns c =
    let w = c.args.self in
    let f = fifty w c.requires in
    rw (eq-eqb c.args.mode 0 (omega arith), is_not w.bits w.register f.0 f.1 c.if-start-self.false)
