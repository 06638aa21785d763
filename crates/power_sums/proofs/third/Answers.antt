-- `third` meets its contract: the quotient where the first number is not 0.
-- Assumes nothing.
use Rattle.std.proofs.Common.{get_or, ne_eqb}
use Rattle.power_sums.specs.Sums.{third_of}
use Rattle.power_sums.proofs.third.Goals as goal

pub returns-else-u-eq0 : goal.returns-else-u-eq0
unfolding third_of
returns-else-u-eq0 c = rw (ne_eqb (get_or c.args.u 0 0) 0 c.if-u-eq0.false) c.over.ensures
