-- `calendar::leap::leap_code` meets its contract: the years since a leap year, or the table's entry for them.
-- Assumes nothing.
use Rattle.calendar.specs.LeapCodes.{leap_code}
use Rattle.calendar.proofs.leap.leap_code.Goals as goal

pub returns-in-Of1984 : goal.returns-in-Of1984
unfolding leap_code
returns-in-Of1984 c = rw c.in-Of1984.is

pub returns-in-Of1982 : goal.returns-in-Of1982
unfolding leap_code
returns-in-Of1982 c = rw c.in-Of1982.is
