-- `lw_why` hands on what the call of `face_receiver` promises. Said outright, so that a wrong program is refused for what differs.
-- Assumes nothing.
use Rattle.face_receiver_c.proofs.lw_why.Goals as goal

pub returns : goal.returns
returns c = c.lw_why.ensures
