-- `minutes_later` meets its contract: the loop holds the record so many minutes later.
-- Assumes nothing.
use Rattle.std.proofs.Common.{◌≡◌}
use Rattle.std.specs.Prelude.{Ok}
use Rattle.calendar.specs.MinutesLater.{minutes_later}
use Rattle.timekeeping.proofs.minutes_later.Given as goal

abbrev pub invariant-loop : goal.invariant-loop
invariant-loop l = minutes_later l.edition l.counter l.fn.held ≡ Ok l.later
