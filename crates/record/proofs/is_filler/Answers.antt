-- `record::is_filler` meets its contract: each edition has its test.
-- Assumes nothing.
use Rattle.record.specs.Editions.{is_filler}
use Rattle.record.proofs.is_filler.Goals as goal

pub returns-in-Of1984 : goal.returns-in-Of1984
unfolding is_filler
returns-in-Of1984 c = rw c.in-Of1984.is

pub returns-in-Of1982 : goal.returns-in-Of1982
unfolding is_filler
returns-in-Of1982 c = rw c.in-Of1982.is
