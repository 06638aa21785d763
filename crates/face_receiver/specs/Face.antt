-- How the time stands as a flat struct for C: the refusal's number, 0 for none, then the kind and the bit, zeros where refused.
-- Assumes nothing.
use Rattle.std.specs.Prelude.{ℕ, Result, Ok, Err}
use Rattle.refusal.specs.Numbers.{number_of}
use Rattle.refusal.specs.declared.Refusal.{Refusal}
use Rattle.watch.specs.declared.Standing.{Standing}
use Rattle.watch.specs.declared.Standing.TheVariants.{Confirmed, LockLost, NeverLocked, BlockMissing, NoUsableBlock, NotNextMinute, TooYoung}
use Rattle.face_receiver.specs.declared.StandingAnswer.{StandingAnswer}

-- one of the kinds, with the bit that is to blame
abbrev pub kind_face : ℕ → ℕ → StandingAnswer
kind_face kind bit = record { refusal = 0; kind = kind; bit = bit }

-- the seven kinds in the order in which the paper gives them, with the bit n where it names one (02, No. 11)
abbrev pub told_face : Standing → StandingAnswer
told_face Confirmed = kind_face 1 0
told_face (LockLost n) = kind_face 2 n
told_face NeverLocked = kind_face 3 0
told_face (BlockMissing n) = kind_face 4 n
told_face NoUsableBlock = kind_face 5 0
told_face (NotNextMinute n) = kind_face 6 n
told_face TooYoung = kind_face 7 0

abbrev pub standing_face : Result Standing Refusal → StandingAnswer
standing_face (Ok standing) = told_face standing
standing_face (Err why) = record { refusal = number_of why; kind = 0; bit = 0 }
