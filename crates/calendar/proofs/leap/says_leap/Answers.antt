-- `calendar::leap::says_leap` meets its contract: each edition has its code.
-- Assumes nothing.
use Rattle.calendar.specs.LeapCodes.{says_leap}
use Rattle.calendar.proofs.leap.says_leap.Goals as goal

pub returns-in-Of1984 : goal.returns-in-Of1984
unfolding says_leap
returns-in-Of1984 c = rw c.in-Of1984.is

pub returns-in-Of1982 : goal.returns-in-Of1982
unfolding says_leap
returns-in-Of1982 c = rw c.in-Of1982.is
