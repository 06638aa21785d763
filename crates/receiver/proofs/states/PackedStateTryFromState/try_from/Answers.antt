-- The fifty places become one number, and every other field stays.
-- Assumes nothing.
use Rattle.receiver.proofs.states.PackedStateTryFromState.try_from.Goals as goal

pub returns : goal.returns
returns c = rw (← c.pack.ensures, c.in_ok-bits.was)
