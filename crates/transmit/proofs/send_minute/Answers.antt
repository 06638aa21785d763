-- `send_minute` meets its contract: one block after twenty-nine, and a line's end, which changes nothing of what is left.
-- Assumes nothing.
use Rattle.transmit.proofs.Sending.{one_more}
use Rattle.transmit.proofs.send_minute.Goals as goal

pub returns : goal.returns
returns g c = one_more 29 c.args.start c.in_ok-last.ensures c.in_ok-left.ensures
