-- `lw_decide` hands on what the call of `face_halves` promises. Said outright, so that a wrong program is refused for what differs.
-- Assumes nothing.
use Rattle.face_halves_c.proofs.lw_decide.Goals as goal

pub returns : goal.returns
returns c = c.lw_decide.ensures
