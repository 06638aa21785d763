-- `feed_input` meets its contract: what is fed piece by piece is fed.
-- Assumes nothing.
use Rattle.std.proofs.Common.{arith}
use Rattle.why.proofs.Feeding.{fed_fresh, fed_more}
use Rattle.why.proofs.feed_input.Goals as goal

pub loop-init : goal.loop-init
loop-init g c = rw c.fresh-watch.ensures (fed_fresh _)

pub loop-preserved : goal.loop-preserved
loop-preserved g c =
    let piece = c.in_ok-piece.ensures in
    fed_more _ c.loop.invariant _ piece.bits (omega (arith, piece.size)) c.run.ensures

pub returns-then-not-piece : goal.returns-then-not-piece
returns-then-not-piece g c =
    let piece = c.in_ok-piece.ensures in
    fed_more _ c.loop.invariant _ piece.bits (omega (arith, piece.size)) c.run.ensures
