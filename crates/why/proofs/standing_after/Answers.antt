-- `standing_after` meets its contract: a watch that was fed from a fresh one tells how the time stands.
-- Assumes nothing.
use Rattle.why.proofs.Feeding.{fed_told, same_ok}
use Rattle.why.proofs.standing_after.Goals as goal

pub unwrap-requires : goal.unwrap-requires
unwrap-requires g c = rw (fed_told _ c.in_ok-watch.ensures c.why.ensures)

pub returns : goal.returns
returns g c =
    let f = c.in_ok-watch.ensures in
    record { history = f.history; bits = f.bits; told = same_ok c.unwrap.ensures (fed_told _ f c.why.ensures) }
