-- `settle` meets its contract: entries, trailer and zeros, one after the other.
-- Assumes nothing.
use Rattle.std.proofs.Common.{◌+◌, ◌*◌, ◌∙◌, arith, drop}
use Rattle.journal.specs.Trailer.{entries_there}
use Rattle.journal.proofs.Settling.{settled, cleared}
use Rattle.journal.proofs.Sixteens.{length_entries}
use Rattle.journal.proofs.settle.Goals as goal

pub returns : goal.returns
returns c =
    let s = c.args.journal.now in
    let w = c.args.wanted in
    cleared _ (w.count * 16 + 16) (omega arith) (c.fill.ensures.after (λ y e. e))
    ∙ settled s (entries_there s w) w.count (length_entries w.count (drop w.first s)) (omega (arith, c.requires)) c.move_to_front.ensures c.put_pair.ensures
