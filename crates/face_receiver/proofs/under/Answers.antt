-- `under` meets its contract: what was called answers, or the refusal, with what was lent as it was.
-- Assumes nothing.
use mathlib.Core.Path.{refl, sym, ap}
use Rattle.receiver.specs.declared.Ran.{Ran}
use Rattle.face_receiver.proofs.under.Goals as goal

pub returns-in-Ok : goal.returns-in-Ok
returns-in-Ok g c = (c.call-ran.result, refl, refl, rw (← c.try_from.ensures, c.in-Ok.is) c.call-ran.ensures)

pub returns-in-Err : goal.returns-in-Err
returns-in-Err g c =
    (c.refused.result, refl, sym (ap (λ (r : Ran g.row.S.Denot). r.state) c.refused.ensures), rw (← c.try_from.ensures, c.in-Err.is) c.refused.ensures)
