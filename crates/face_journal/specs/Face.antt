-- The answers as flat structs for C: the refusal's number, then the values, zeros where refused.
-- Assumes nothing.
use Rattle.std.specs.Prelude.{ℕ, Result}
use Rattle.refusal.specs.declared.Refusal.{Refusal}
use Rattle.journal.specs.Compaction.{refusal_in, length_in}
use Rattle.reception.specs.Share.{quotient_in, remainder_in}
use Rattle.reception.specs.declared.Share.{Share}
use Rattle.face_journal.specs.declared.CompactedAnswer.{CompactedAnswer}
use Rattle.face_journal.specs.declared.ShareAnswer.{ShareAnswer}

abbrev pub compacted_face : Result ℕ Refusal → CompactedAnswer
compacted_face answer = record { refusal = refusal_in answer; length = length_in answer }

abbrev pub share_face : Result Share Refusal → ShareAnswer
share_face answer = record { refusal = refusal_in answer; quotient = quotient_in answer; remainder = remainder_in answer }
