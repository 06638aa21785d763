-- `calendar::leap::next_leap_code` meets its contract: the code counts on, or the table says what follows it.
-- Assumes nothing.
use Rattle.calendar.specs.LeapCodes.{next_leap_code}
use Rattle.calendar.proofs.leap.next_leap_code.Goals as goal

pub returns-in-Of1984 : goal.returns-in-Of1984
unfolding next_leap_code
returns-in-Of1984 c = rw c.in-Of1984.is

pub returns-in-Of1982 : goal.returns-in-Of1982
unfolding next_leap_code
returns-in-Of1982 c = rw c.in-Of1982.is
