-- `usable_in` meets its contract. The goal is named, so that another edition is refused at its own fact.
-- Assumes nothing.
use Rattle.timekeeping.specs.Times.{usable_in}
use Rattle.timekeeping.proofs.usable_in.Goals as goal

pub returns : goal.returns
unfolding usable_in
returns c = rw (c.in_ok-body.was, ← c.read_record.ensures, c.in_ok-record.was) c.usable.ensures
