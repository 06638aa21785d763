-- The answer as a flat struct for C: the refusal's number, then the remainder, zero where refused.
-- Assumes nothing.
use Rattle.std.specs.Prelude.{ℕ, Result}
use Rattle.refusal.specs.declared.Refusal.{Refusal}
use Rattle.joining.specs.Joining.{refusal_of, remainder_in}
use Rattle.face_joining.specs.declared.RemainderAnswer.{RemainderAnswer}

abbrev pub remainder_face : Result ℕ Refusal → RemainderAnswer
remainder_face divided = record { refusal = refusal_of divided; remainder = remainder_in divided }
