-- `Watch::standing` meets its contract. The goals are named, so that a wrong standing is refused at its own fact.
-- Assumes nothing.
use borrow.Author.Tests.{eq-eqb, ne_eqb}
use native.Mathlib.Omega.{arith}
use Rattle.watch.specs.Standing.{standing_with}
use Rattle.watch.proofs.Watch.standing.Goals as goal

pub returns-then-state-ne-LOCKED : goal.returns-then-state-ne-LOCKED
unfolding standing_with
returns-then-state-ne-LOCKED c =
    let w = c.args.self in
    rw (ne_eqb w.state.time 2 (omega arith), ne_eqb w.state.mode 2 (omega arith), ne_eqb w.lost 0 (omega arith))

pub returns : goal.returns
unfolding standing_with
returns c =
    let w = c.args.self in
    rw (ne_eqb w.state.time 2 (omega arith), ne_eqb w.state.time 0 (omega arith), eq-eqb w.state.mode 2 (omega arith), ne_eqb w.displaced 0 (omega arith))
