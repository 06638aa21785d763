-- A proper lock that is not locked holds no time, and hunting has one shape: so it is of each kind.
-- Assumes nothing.
use native.Mathlib.Omega.{arith}
use mathlib.Core.Path.{◌≡◌, refl}
use mathlib.Core.Bool.{true}
use Rattle.record.specs.declared.Edition.{Edition}
use Rattle.timekeeping.specs.Times.{no_time}
use Rattle.locking.specs.declared.Lock.{Lock}
use Rattle.locking.specs.Locks.{hunting, locked, fresh_lock, lock_proper}
use Rattle.locking.proofs.Choices.{proper_elim}

module _ (edition : Edition) where
  pub lock_time : (l : Lock) → lock_proper edition l ≡ true → (l.mode ≡ locked → ⊥) → l.time ≡ no_time
  lock_time l e =
      proper_elim edition (λ (l : Lock). (l.mode ≡ locked → ⊥) → l.time ≡ no_time) l e (λ _. refl) (λ _ _ _ _. refl) (λ _ _ _ _ n. absurd (n refl))

  -- a proper lock that hunts is the fresh one
  pub hunting_fresh : (l : Lock) → lock_proper edition l ≡ true → l.mode ≡ hunting → l ≡ fresh_lock
  hunting_fresh l e =
      proper_elim edition (λ (l : Lock). l.mode ≡ hunting → l ≡ fresh_lock) l e (λ _. refl) (λ _ _ _ m. absurd (omega arith)) (λ _ _ _ _ m. absurd (omega arith))
