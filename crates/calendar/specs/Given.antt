-- What the paper gives for a dated answer: the number of the refusal, 0 for none, and the date, zeros where refused
-- (01, "Numbers given when something is refused").
-- Assumes nothing.
use Rattle.std.specs.Prelude.{ℕ, pos, Result}
use Rattle.refusal.specs.declared.Refusal.{Refusal}
use Rattle.record.specs.Given.{given}
use Rattle.calendar.specs.declared.Date.{Date}
use Rattle.calendar.specs.Dates.{new_date}

abbrev pub zero_date : Date
zero_date = new_date 0 0 0 0 0 (pos 0)

abbrev pub given_date : Result Date Refusal → ℕ × Date
given_date = given zero_date
