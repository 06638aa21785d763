-- `renewed` meets its contract where nothing is confirmed. The goals are named, so that a wrong kind is refused at its own fact.
-- Assumes nothing.
use borrow.Author.Tests.{eq-eqb, ne_eqb}
use Rattle.timekeeping.specs.Times.{renewed_by}
use Rattle.timekeeping.proofs.renewed.Goals as goal

pub returns-else-confirms : goal.returns-else-confirms
unfolding renewed_by
returns-else-confirms c = rw (ne_eqb _ _ c.if-time-ne-NONE.true, ← c.confirms.ensures, c.if-confirms.false)

pub returns-else-time-ne-NONE : goal.returns-else-time-ne-NONE
unfolding renewed_by
returns-else-time-ne-NONE c = rw (eq-eqb _ _ c.if-time-ne-NONE.false)
