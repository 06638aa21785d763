-- Lost lock leaves exactly the fresh state, the only one that a step from locked to another mode leads to; and no time is held
-- except when locked, by the tests of a proper state.
-- Assumes nothing.
use Prim.Native.Nat.{ℕ}
use mathlib.Core.Path.{◌≡◌, refl, ap}
use mathlib.Core.Bool.{Bool, true, false}
use borrow.Author.Tests.{eqb-true, eqb-false}
use lib.Dec.{eqb}
use Rattle.block.specs.Read.{read_of}
use Rattle.record.specs.declared.Edition.{Edition}
use Rattle.timekeeping.specs.declared.Time.{Time}
use Rattle.timekeeping.specs.Times.{none, time_of, no_time}
use Rattle.locking.specs.declared.Judged.{Judged}
use Rattle.locking.specs.Locks.{locked}
use Rattle.locking.proofs.Choices.{held_elim, held_judged}
use Rattle.locking.proofs.NoTime.{lock_time}
use Rattle.receiver.specs.declared.State.{State}
use Rattle.receiver.specs.States.{lock_in, fresh_of, proper_of}
use Rattle.receiver.specs.Steps.{Step, step_of}
use Rattle.receiver.proofs.Choices.{filled, judges, step_elim}
use Rattle.receiver.proofs.StaysProper.{bits_and_lock}

-- ---- lost lock

-- what is not locked any more is fresh
abbrev Lost : State → Type 0
Lost s = (s.mode ≡ locked → ⊥) → s ≡ fresh_of

module _ (edition : Edition) where
  pub lost_lock_lem : (s : State) (b : ℕ) → s.mode ≡ locked → Lost (step_of edition s b).next
  unfolding fresh_of
  lost_lock_lem s b m =
      step_elim edition (λ (t : Step). Lost t.next) s b (λ _ n. absurd (n m))
      (λ _.
      rw (held_judged edition (lock_in s) (read_of (filled s b)) m)
      (held_elim edition (λ (j : Judged). Lost (judges (filled s b) j).next) s.bad _ _ (λ n. absurd (n refl)) (λ _. refl) (λ _ n. absurd (n refl))))

  -- ---- no time

  -- a proper state that is not locked holds no time: its kind, its record and its age are 0
  pub no_time_lem : (s : State) → proper_of edition s ≡ true → (s.mode ≡ locked → ⊥) → time_of s.time s.held s.age ≡ no_time
  no_time_lem s e = lock_time edition (lock_in s) (bits_and_lock edition s e).1

  -- a proper state that holds a time is locked
  pub held_locked : (s : State) → proper_of edition s ≡ true → (s.time ≡ none → ⊥) → s.mode ≡ locked
  held_locked s e held = by (eqb s.mode locked) refl
    where
      by : (t : Bool) → eqb s.mode locked ≡ t → s.mode ≡ locked
      by true m = eqb-true s.mode locked m
      by false m = absurd (held (ap (λ (t : Time). t.kind) (no_time_lem s e (eqb-false s.mode locked m))))
