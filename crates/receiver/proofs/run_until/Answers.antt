-- `run_until` meets its contract: a run within the limit, from a proper state, is fed.
-- Assumes nothing.
use borrow.Author.Tests.{le-ltb}
use mathlib.Core.Path.{sym, ◌∙◌}
use Rattle.receiver.specs.Changes.{stretch_of}
use Rattle.receiver.proofs.Changes.{stretch_is}
use Rattle.receiver.proofs.run_until.Goals as goal

pub returns-then-improper : goal.returns-then-improper
unfolding stretch_of
returns-then-improper c =
    let proper = c.is_proper-improper in
    rw (le-ltb 65536 _ c.if-long.false, ← proper.ensures, c.if-improper.true, c.refused-ran-then-improper.ensures)

pub returns : goal.returns
returns c =
    let start = c.args in
    let proper = sym c.is_proper-improper.ensures ∙ c.if-improper.false in
    c.feed_all.ensures ∙ sym (stretch_is start.edition start.until start.state start.bits.now c.if-long.false proper)
