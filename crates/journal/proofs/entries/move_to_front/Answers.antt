-- `move_to_front` meets its contract. The loop's invariant: what was moved, with what is left, makes up the whole.
-- Assumes nothing.
use Rattle.std.proofs.Common.{◌+◌, ◌*◌, ◌<◌, ◌-◌, arith}
use Rattle.journal.proofs.Moving.{one_moved, all_moved, next_place, read_there}
use Rattle.journal.proofs.entries.move_to_front.Goals as goal

pub loop-place-preserved : goal.loop-place-preserved
loop-place-preserved c =
    let lp = c.loop-place in
    let w = c.args.wanted in
    let more : 0 < w.count - lp.place = omega arith in
    rw c.put_pair.ensures
    (next_place lp.place (one_moved more c.read-entry.result (read_there lp.journal (w.first + 16 * lp.place) c.read-entry.ensures) lp.invariant))

pub returns : goal.returns
returns c = all_moved (omega arith) c.loop-place.invariant
