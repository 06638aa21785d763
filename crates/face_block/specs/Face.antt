-- The answers as flat structs for C: the refusal's number, then the values, zeros where refused but for the remainder that a 4 tells;
-- and the version's number.
-- Assumes nothing.
use Rattle.std.specs.Prelude.{ℕ, ◌+◌, ◌*◌, Result}
use Rattle.refusal.specs.declared.Refusal.{Refusal}
use Rattle.block.specs.Packed.{number_packed}
use Rattle.block.specs.Read.{refusal_in, code_read, word_read, remainder_read}
use Rattle.block.specs.Write.{refusal_of}
use Rattle.block.specs.declared.Body.{Body}
use Rattle.block.specs.declared.Refused.{Refused}
use Rattle.face_block.specs.declared.BlockAnswer.{BlockAnswer}
use Rattle.face_block.specs.declared.PackedAnswer.{PackedAnswer}

abbrev pub block_face : Result Body Refused → BlockAnswer
block_face read = record { refusal = refusal_in read; code = code_read read; word = word_read read; remainder = remainder_read read }

abbrev pub packed_face : Result ℕ Refusal → PackedAnswer
packed_face packed = record { refusal = refusal_of packed; block = number_packed packed }

-- a version in three parts as one number, two digits each for the second and the third
abbrev pub version_of : ℕ → ℕ → ℕ → ℕ
version_of large small repair = 10000 * large + 100 * small + repair
