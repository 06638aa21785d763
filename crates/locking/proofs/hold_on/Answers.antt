-- `hold_on` meets its contract. The goals are named, so that a wrong answer is refused at its own fact.
-- Assumes nothing.
use borrow.Author.Tests.{le-leb, lt-leb}
use Rattle.std.proofs.Common.{◌+◌, arith}
use Rattle.locking.specs.Modes.{held_on}
use Rattle.locking.proofs.hold_on.Goals as goal
use Rattle.locking.proofs.hold_on.Goals.{then-bad-lt3, else-bad-lt3}

pub returns-in-Ok : goal.returns-in-Ok
unfolding held_on
returns-in-Ok c = rw (c.good_block.ensures, c.locked.ensures, c.offered_to-next.ensures, c.in-Ok.is)

pub returns-after-bad-lt3 : goal.returns-after-bad-lt3
unfolding held_on
returns-after-bad-lt3 c =
    let bad = c.args.bad in
    elim c.if-bad-lt3.branch [ then-bad-lt3 w ↦ rw (c.bad_block.ensures, w.left-is, w.locked-left.ensures, c.offered_to-next.ensures, c.in-Err.is, lt-leb 4 (bad + 1) (omega arith)) | else-bad-lt3 w ↦ rw (c.bad_block.ensures, w.left-is, w.fresh_lock-left.ensures, c.in-Err.is, le-leb 4 (bad + 1) (omega arith)) ]
