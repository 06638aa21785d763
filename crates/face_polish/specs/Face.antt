-- The answer as a flat struct for C: the refusal's number, then the values, zeros where refused.
-- Assumes nothing.
use Rattle.std.specs.Prelude.{List, ◌≡◌, ℕ, Result}
use Rattle.polish.specs.Read.{Reads, refusal_in, time_read}
use Rattle.refusal.specs.declared.Refusal.{Refusal}
use Rattle.polish.specs.declared.Time.{Time}
use Rattle.face_polish.specs.declared.PolishAnswer.{PolishAnswer}

abbrev pub polish_face : Result Time Refusal → PolishAnswer
polish_face answer = record { refusal = refusal_in answer; time = time_read answer }

-- the flat answer of a reading of a frame
pub record PolishReads (bytes : List ℕ) (answer : PolishAnswer) : Type 0 where
  pub read : Result Time Refusal
  pub reads : Reads bytes read
  pub flat : answer ≡ polish_face read
