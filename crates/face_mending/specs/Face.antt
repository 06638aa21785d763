-- The answer as a flat struct for C: the refusal's number, then the place and the pattern, zeros where refused.
-- Assumes nothing.
use Rattle.std.specs.Prelude.{List, ◌≡◌, ℕ, Result}
use Rattle.refusal.specs.declared.Refusal.{Refusal}
use Rattle.mending.specs.Mending.{Mends, refusal_of, place_in, pattern_in}
use Rattle.mending.specs.declared.Change.{Change}
use Rattle.face_mending.specs.declared.MendedAnswer.{MendedAnswer}

abbrev pub mended_face : Result Change Refusal → MendedAnswer
mended_face mended = record { refusal = refusal_of mended; place = place_in mended; pattern = pattern_in mended }

-- the flat answer of a mending, and what the bytes then hold
pub record MendsFace (bits : List ℕ) (answer : MendedAnswer) (after : List ℕ) : Type 0 where
  pub mended : Result Change Refusal
  pub mends : Mends bits mended after
  pub flat : answer ≡ mended_face mended
