-- One bit: it joins those waiting, and at fifty the window is judged (01, "Hunting, trying, locked").
-- Assumes nothing.
use Rattle.std.specs.Prelude.{ℕ, ◌+◌, cond, List, [], ◌∷◌, ◌++◌, eqb, ltb, drop, set}
use Rattle.block.specs.Bits.{zeros}
use Rattle.block.specs.Read.{read_of}
use Rattle.record.specs.declared.Edition.{Edition}
use Rattle.locking.specs.declared.Blocks.{Blocks}
use Rattle.locking.specs.declared.Judged.{Judged}
use Rattle.locking.specs.Modes.{no_blocks, judged_by}
use Rattle.receiver.specs.declared.State.{State}
use Rattle.receiver.specs.States.{state_of, lock_in}

-- what one bit counts, and the state after it
pub record Step : Type 0 where
  pub blocks : Blocks
  pub passed : ℕ
  pub next : State

-- after a judgement either all fifty bits are used up, or the oldest is passed over and 49 wait
abbrev pub waiting_after : Judged → ℕ
waiting_after j = cond (eqb j.passed 1) 49 0

abbrev pub bits_after : Judged → List ℕ → List ℕ
bits_after j w = cond (eqb j.passed 1) (drop 1 w ++ (0 ∷ [])) (zeros 50)

-- a full window is judged
unfoldable pub judged_step : Edition → State → List ℕ → Step
judged_step edition s w =
    let j : Judged = judged_by edition (lock_in s) (read_of w) in
    record { blocks = j.blocks; passed = j.passed; next = state_of j.lock (waiting_after j) (bits_after j w) }

-- the bit takes the first place that is not in use
unfoldable pub step_of : Edition → State → ℕ → Step
step_of edition s b =
    let w : List ℕ = set s.bits s.waiting b in
    cond (ltb s.waiting 49) (record { blocks = no_blocks; passed = 0; next = state_of (lock_in s) (s.waiting + 1) w }) (judged_step edition s w)
