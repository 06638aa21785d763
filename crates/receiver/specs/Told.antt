-- The remainder that a run tells, in the words of the request (02, No. 7): that of the last among its bad blocks that were refused with
-- 4, or 0. A window that is passed over is no bad block, and a later bad block refused with 3 does not clear what was told.
-- Assumes nothing.
use Rattle.block.specs.declared.Refused.{Refused}
use Rattle.block.specs.declared.Body.{Body}
use Rattle.std.specs.Prelude.{ℕ, ◌≤◌, true, cond, ◌&&◌, List, [], ◌∷◌, ◌≡◌, eqb, length, set, Result}
use Rattle.std.proofs.Math.Option.{Option, none, some, get_or, or_else}
use Rattle.block.specs.Read.{read_of, refusal_in, remainder_read}
use Rattle.record.specs.declared.Edition.{Edition}
use Rattle.locking.specs.declared.Blocks.{Blocks}
use Rattle.receiver.specs.declared.State.{State}
use Rattle.receiver.specs.States.{proper_of}
use Rattle.receiver.specs.Steps.{step_of}
use Rattle.receiver.specs.Runs.{run_of}
use Rattle.receiver.specs.History.{bits_before}

-- the remainder of a window that reads so, where it counts as a bad block and is refused with 4
abbrev pub told_by : Result Body Refused → Blocks → Option ℕ
told_by w blocks = cond (eqb blocks.bad 1 && eqb (refusal_in w) 4) (some (remainder_read w)) none

-- that of the window which this bit fills, if it fills one
abbrev pub told_with : Edition → State → ℕ → Option ℕ
told_with edition s b = told_by (read_of (set s.bits s.waiting b)) (step_of edition s b).blocks

-- the last of all the bits': that of the later ones, or else of the first
unfoldable pub last_told : Edition → State → List ℕ → Option ℕ
unfolding or_else
last_told edition s [] = none
last_told edition s (b ∷ bs) = or_else (last_told edition (step_of edition s b).next bs) (told_with edition s b)

-- a run that is not refused with 9 or 10 tells it of the bits that it fed, or 0 where there is none
abbrev pub RunTells : Type 0
RunTells = (edition : Edition) (s : State) (bs : List ℕ) → proper_of edition s ≡ true → length bs ≤ 65536 → (run_of edition s bs).counts.remainder ≡ get_or (last_told edition s (bits_before bs)) 0
