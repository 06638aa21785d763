-- `is_no_time` meets its contract: the fields in another order, and the offset by its sign.
-- Assumes nothing.
use Rattle.std.proofs.Common.{arith, ◌≡◌, ℤ, pos, negsuc, int_eq}
use Rattle.std.proofs.lemmas.Bool.Decides.{nat_tests}
use Rattle.timekeeping.specs.Proper.{is_zero, is_no_time, is_zero_record}
use Rattle.timekeeping.proofs.is_no_time.Goals as goal

zero_offset : (z : ℤ) → int_eq z (pos 0) ≡ is_zero z
zero_offset (pos n) = grind (arith, nat_tests)
zero_offset (negsuc n) = grind (arith, nat_tests)

pub returns : goal.returns
unfolding is_no_time is_zero_record
returns c = rw (c.eq.ensures, c.no_time.ensures, zero_offset) (grind (arith, nat_tests))
