-- `decide` meets its contract: a number that names no polarity is refused, and under the others it decides.
-- Assumes nothing.
use borrow.Author.Tests.{lt-ltb, le-ltb}
use Rattle.face_halves.specs.Under.{decided_under, written_under}
use Rattle.face_halves.proofs.decide.Goals as goal

pub returns-then-polarity-gt1 : goal.returns-then-polarity-gt1
unfolding decided_under written_under
returns-then-polarity-gt1 c = let none = lt-ltb 1 c.args.polarity c.if-polarity-gt1.true in (rw none, rw none)

pub returns : goal.returns
unfolding decided_under written_under
returns c = let given = le-ltb 1 c.args.polarity c.if-polarity-gt1.false in (rw given c.decide.ensures.0, rw (given, ← c.from.ensures) c.decide.ensures.1)
