-- `feed_input` meets its contract: what is fed piece by piece is fed.
-- Assumes nothing.
use Rattle.std.proofs.Common.{arith}
use Rattle.receive.proofs.Hearing.{fed_none, fed_more, fed_proper}
use Rattle.receive.proofs.feed_input.Goals as goal

pub loop-init : goal.loop-init
loop-init g c = rw c.fresh-kept.ensures fed_none

pub feed_all-fed-requires : goal.feed_all-fed-requires
feed_all-fed-requires g c =
    let piece = c.in_ok-piece.ensures in
    (fed_proper c.loop.invariant, piece.bits, omega (arith, piece.size))

pub loop-preserved : goal.loop-preserved
loop-preserved g c = fed_more c.loop.invariant _ c.in_ok-piece.ensures.bits c.feed_all-fed.ensures

pub returns-then-not-piece : goal.returns-then-not-piece
returns-then-not-piece g c = fed_more c.loop.invariant _ c.in_ok-piece.ensures.bits c.feed_all-fed.ensures
