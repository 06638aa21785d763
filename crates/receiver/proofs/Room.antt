-- A step leaves 0 to 49 bits waiting in fifty places: so it is in each of its answers.
-- Assumes nothing.
use Prim.Native.Nat.{ℕ, ◌<◌}
use native.Mathlib.Omega.{arith}
use mathlib.Core.Path.{◌≡◌, refl, ◌∙◌}
use mathlib.Core.List.{List}
use lib.Dec.{eqb}
use lib.ListN.{length, length-append, length-drop, length-set}
use Rattle.block.specs.Read.{read_of}
use Rattle.record.specs.declared.Edition.{Edition}
use Rattle.timekeeping.proofs.Choices.{cond_elim}
use Rattle.locking.specs.declared.Judged.{Judged}
use Rattle.locking.specs.Modes.{judged_by}
use Rattle.locking.proofs.Choices.{judged_elim}
use Rattle.receiver.specs.declared.State.{State}
use Rattle.receiver.specs.States.{lock_in}
use Rattle.receiver.specs.Steps.{Step, bits_after, step_of}
use Rattle.receiver.proofs.Choices.{filled, judges, step_elim}

-- ---- the fifty places stay fifty

pub filled_places : (s : State) (b : ℕ) → length s.bits ≡ 50 → length (filled s b) ≡ 50
filled_places s b h = length-set s.bits s.waiting b ∙ h

pub after_places : (j : Judged) (w : List ℕ) → length w ≡ 50 → length (bits_after j w) ≡ 50
after_places j w h = cond_elim (λ (l : List ℕ). length l ≡ 50) (eqb j.passed 1) (λ _. simp (length-append, length-drop) (omega arith)) (λ _. refl)

module _ (edition : Edition) where
  pub step_room : (s : State) (b : ℕ) → (step_of edition s b).next.waiting < 50
  step_room s b =
      step_elim edition (λ (t : Step). t.next.waiting < 50) s b (λ h. omega arith)
      (λ _.
      judged_elim edition (λ (j : Judged). (judges (filled s b) j).next.waiting < 50) (lock_in s) (read_of (filled s b)) (λ _. omega arith) (λ _. omega arith) (omega arith))

  pub step_places : (s : State) (b : ℕ) → length s.bits ≡ 50 → length (step_of edition s b).next.bits ≡ 50
  step_places s b h =
      let same : length (filled s b) ≡ 50 = filled_places s b h in
      step_elim edition (λ (t : Step). length t.next.bits ≡ 50) s b (λ _. same) (λ _. after_places (judged_by edition (lock_in s) (read_of (filled s b))) (filled s b) same)
