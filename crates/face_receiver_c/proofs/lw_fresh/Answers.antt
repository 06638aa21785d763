-- `lw_fresh` hands on what the call of `face_receiver` promises. Said outright, so that a wrong program is refused for what differs.
-- Assumes nothing.
use Rattle.face_receiver_c.proofs.lw_fresh.Goals as goal

pub returns : goal.returns
returns c = c.lw_fresh.ensures
