-- The answers as flat structs for C: the refusal's number, then the values, zeros where refused.
-- Assumes nothing.
use Rattle.std.specs.Prelude.{ℕ, Result}
use Rattle.refusal.specs.declared.Refusal.{Refusal}
use Rattle.record.specs.declared.Record.{Record}
use Rattle.calendar.specs.declared.Date.{Date}
use Rattle.calendar.specs.Given.{given_date}
use Rattle.record.specs.Given.{given_record, given_word}
use Rattle.face_time.specs.declared.DateAnswer.{DateAnswer}
use Rattle.face_time.specs.declared.RecordAnswer.{RecordAnswer}
use Rattle.face_time.specs.declared.WordAnswer.{WordAnswer}

abbrev pub word_face : Result ℕ Refusal → WordAnswer
word_face answer = record { refusal = (given_word answer).0; word = (given_word answer).1 }

abbrev pub record_face : Result Record Refusal → RecordAnswer
record_face answer = record { refusal = (given_record answer).0; given = (given_record answer).1 }

abbrev pub date_face : Result Date Refusal → DateAnswer
date_face answer = record { refusal = (given_date answer).0; given = (given_date answer).1 }
