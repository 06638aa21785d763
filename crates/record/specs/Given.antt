-- What the paper gives for each answer: the number of the refusal, 0 for none, and the value, zeros where refused
-- (01, "Numbers given when something is refused").
-- Assumes nothing.
use Rattle.std.specs.Prelude.{ℕ, pos, Result, Ok, Err}
use Rattle.refusal.specs.declared.Refusal.{Refusal}
use Rattle.refusal.specs.Numbers.{number_of}
use Rattle.record.specs.declared.Record.{Record}

abbrev pub zero_record : Record
zero_record = record { leap = 0; start_day = 0; week = 0; weekday = 0; hour = 0; minute = 0; offset = pos 0 }

-- of any answer, with what stands for its value where it is refused
abbrev pub given : {A : Type 0} → A → Result A Refusal → ℕ × A
given none (Ok value) = (0, value)
given none (Err why) = (number_of why, none)

abbrev pub given_record : Result Record Refusal → ℕ × Record
given_record = given zero_record

abbrev pub given_word : Result ℕ Refusal → ℕ × ℕ
given_word = given 0
