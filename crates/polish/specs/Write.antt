-- Writing a frame: test 19 (02, No. 10).
-- Assumes nothing.
use Rattle.std.specs.Prelude.{Bool, cond, ◌&&◌, List, ℕ, ◌^◌, eqb, ltb, length, ◌<◌, ⊤, Result, Ok, Err}
use Rattle.refusal.specs.Numbers.{number_of}
use Rattle.refusal.specs.declared.Refusal.{Refusal}
use Rattle.refusal.specs.declared.Refusal.TheVariants.{WrongSize}
use Rattle.polish.specs.Frame.{body_of, framed}
use Rattle.polish.specs.declared.Time.{Time}

-- the count has 30 bits, and each of the others one
unfoldable pub fitting : Time → Bool
fitting time =
    ltb time.periods (2 ^ 30)
    && (ltb time.tz0 2 && (ltb time.tz1 2 && (ltb time.ls 2 && (ltb time.lss 2 && (ltb time.tzc 2 && (ltb time.sk0 2 && ltb time.sk1 2))))))

-- the same, field by field
pub record FieldsFit (time : Time) : Type 0 where
  pub periods : time.periods < 2 ^ 30
  pub tz0 : time.tz0 < 2
  pub tz1 : time.tz1 < 2
  pub ls : time.ls < 2
  pub lss : time.lss < 2
  pub tzc : time.tzc < 2
  pub sk0 : time.sk0 < 2
  pub sk1 : time.sk1 < 2

-- the frame of a time
abbrev pub frame_of : Time → List ℕ
frame_of time = framed (body_of time)

abbrev pub write_of : ℕ → Time → Result ⊤ Refusal
write_of size time = cond (eqb size 12) (cond (fitting time) (Ok tt) (Err WrongSize)) (Err WrongSize)

-- what the slice holds then: the frame, or where refused what it held before
abbrev pub written_of : List ℕ → Time → List ℕ
written_of held time = cond (eqb (length held) 12 && fitting time) (frame_of time) held

-- an answer as the paper's number, 0 where written
abbrev pub refusal_of : Result ⊤ Refusal → ℕ
refusal_of (Ok _) = 0
refusal_of (Err refusal) = number_of refusal
