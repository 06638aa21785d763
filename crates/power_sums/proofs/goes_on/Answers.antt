-- `goes_on` meets its contract: of four numbers the definition makes the three tests.
-- Assumes nothing.
use Rattle.std.proofs.Common.{arith}
use Rattle.power_sums.proofs.Tests.{three_tests}
use Rattle.power_sums.proofs.goes_on.Goals as goal

pub returns-then-u-times-2 : goal.returns-then-u-times-2
returns-then-u-times-2 c = grind (arith, three_tests)
