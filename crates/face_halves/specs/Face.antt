-- What was decided as a flat struct for C: the refusal's number, 0 for none, then the pairing and the number of bits, zeros where refused.
-- Assumes nothing.
use Rattle.std.specs.Prelude.{Result}
use Rattle.refusal.specs.declared.Refusal.{Refusal}
use Rattle.halves.specs.Answer.{refusal_in, pairing_in, count_in}
use Rattle.halves.specs.declared.Decided.{Decided}
use Rattle.face_halves.specs.declared.DecidedAnswer.{DecidedAnswer}

abbrev pub decided_face : Result Decided Refusal → DecidedAnswer
decided_face decided = record { refusal = refusal_in decided; pairing = pairing_in decided; bits = count_in decided }
