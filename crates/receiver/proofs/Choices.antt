-- What is shown of a bit that waits and of a bit that fills the window holds of the step.
-- Assumes nothing.
use Prim.Native.Nat.{ℕ, ◌+◌, ◌≤◌, ◌<◌}
use mathlib.Core.Path.{◌≡◌, ap}
use mathlib.Core.List.{List}
use borrow.Author.Tests.{ltb-true, ltb-false}
use lib.Dec.{ltb}
use lib.ListN.{set}
use Rattle.block.specs.Read.{read_of}
use Rattle.record.specs.declared.Edition.{Edition}
use Rattle.timekeeping.proofs.Choices.{cond_elim}
use Rattle.locking.specs.declared.Judged.{Judged}
use Rattle.locking.specs.Modes.{no_blocks, judged_by}
use Rattle.receiver.specs.declared.State.{State}
use Rattle.receiver.specs.States.{state_of, lock_in}
use Rattle.receiver.specs.Steps.{Step, waiting_after, bits_after, judged_step, step_of}

-- the places with the bit in the first that is not in use
abbrev pub filled : State → ℕ → List ℕ
filled s b = set s.bits s.waiting b

-- the step of a bit that only waits
abbrev pub waits : State → List ℕ → Step
waits s w = record { blocks = no_blocks; passed = 0; next = state_of (lock_in s) (s.waiting + 1) w }

-- the step of a judgement
abbrev pub judges : List ℕ → Judged → Step
judges w j = record { blocks = j.blocks; passed = j.passed; next = state_of j.lock (waiting_after j) (bits_after j w) }

abbrev pub mode_of : {s t : State} → s ≡ t → s.mode ≡ t.mode
mode_of e = ap (λ (s : State). s.mode) e

module _ (edition : Edition) where
  -- a bit waits, or it fills the window, which is judged
  pub step_elim : (P : Step → Type 0) (s : State) (b : ℕ) → (s.waiting < 49 → P (waits s (filled s b)))
      → (49 ≤ s.waiting → P (judges (filled s b) (judged_by edition (lock_in s) (read_of (filled s b))))) → P (step_of edition s b)
  unfolding step_of judged_step
  step_elim P s b waiting full = cond_elim P (ltb s.waiting 49) (λ e. waiting (ltb-true s.waiting 49 e)) (λ e. full (ltb-false s.waiting 49 e))
