-- `room_for` meets its contract: each arm is the case that its test leaves.
-- Assumes nothing.
use borrow.Author.Tests.{lt-ltb, le-ltb}
use Rattle.halves.specs.Answer.{room_for}
use Rattle.halves.proofs.room_for.Goals as goal

pub returns-then-room-count : goal.returns-then-room-count
unfolding room_for
returns-then-room-count c = rw (lt-ltb c.args.room c.args.count c.if-room-count.true)

pub returns : goal.returns
unfolding room_for
returns c = rw (le-ltb c.args.room c.args.count c.if-room-count.false)
