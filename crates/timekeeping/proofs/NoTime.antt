-- No time has one shape: a time that the test takes for none is the definition's, with every place 0.
-- Assumes nothing.
use Rattle.std.proofs.Common.{◌≡◌, true, ℤ, pos, negsuc, arith}
use Rattle.std.proofs.lemmas.Bool.Decides.{nat_tests}
use Rattle.timekeeping.specs.declared.Time.{Time}
use Rattle.timekeeping.specs.Times.{no_time}
use Rattle.timekeeping.specs.Proper.{is_zero, is_zero_record, is_no_time}

zero_offset : (z : ℤ) → is_zero z ≡ true → z ≡ pos 0
zero_offset (pos n) e = grind (arith, nat_tests)
zero_offset (negsuc n) e = cc

pub zero_time : (t : Time) → is_no_time t ≡ true → t ≡ no_time
unfolding is_no_time is_zero_record
zero_time t e = grind (arith, nat_tests, zero_offset)
