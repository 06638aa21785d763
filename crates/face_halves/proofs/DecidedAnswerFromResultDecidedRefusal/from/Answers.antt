-- A refusal's flat answer is the definition's. Said outright, so that a wrong program is refused for what differs.
-- Assumes nothing.
use Rattle.face_halves.proofs.DecidedAnswerFromResultDecidedRefusal.from.Goals as goal

pub returns-in-Err : goal.returns-in-Err
returns-in-Err c = rw (c.in-Err.is, c.from-in-Err.ensures)
