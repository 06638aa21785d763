-- `plus` meets its contract: of two proper reports no total is above 2^32, so no sum is above 2^33.
-- Assumes nothing.
use Rattle.std.proofs.Common.{arith}
use Rattle.reception.proofs.Parts.{small}
use Rattle.reception.proofs.Report.plus.Goals as goal

pub overflow_add-result : goal.overflow_add-result
overflow_add-result c =
    omega (arith, small c.args.self.now c.requires.0, small c.args.other.now c.requires.1)

pub overflow_add-result-2 : goal.overflow_add-result-2
overflow_add-result-2 c =
    omega (arith, small c.args.self.now c.requires.0, small c.args.other.now c.requires.1)

pub overflow_add-result-3 : goal.overflow_add-result-3
overflow_add-result-3 c =
    omega (arith, small c.args.self.now c.requires.0, small c.args.other.now c.requires.1)

pub sum_of_codes-requires : goal.sum_of_codes-requires
sum_of_codes-requires c =
    ((small c.args.self.now c.requires.0).codes, (small c.args.other.now c.requires.1).codes)

pub returns : goal.returns
returns c = rw c.sum_of_codes.ensures
