-- Minutes later, of a record and, by itself, of a date (02, No. 5).
-- Assumes nothing.
use Rattle.std.specs.Prelude.{ℕ, zero, suc, Result, Ok, Err}
use Rattle.refusal.specs.declared.Refusal.{Refusal}
use Rattle.record.specs.declared.Edition.{Edition}
use Rattle.record.specs.declared.Record.{Record}
use Rattle.calendar.specs.declared.Date.{Date}
use Rattle.calendar.specs.NextMinute.{next_minute_of, next_of_date}

-- the next minute of the record that was given; a refusal stays
abbrev pub then_next : Edition → Result Record Refusal → Result Record Refusal
then_next edition (Ok r) = next_minute_of edition r
then_next edition (Err why) = Err why

-- so many minutes later: the next minute taken that often
unfoldable pub minutes_later : Edition → ℕ → Record → Result Record Refusal
minutes_later edition zero r = Ok r
minutes_later edition (suc k) r = then_next edition (minutes_later edition k r)

-- of a date every step exists
unfoldable pub minutes_later_of_date : ℕ → Date → Date
minutes_later_of_date zero d = d
minutes_later_of_date (suc k) d = next_of_date (minutes_later_of_date k d)
