-- A proper lock stays proper, whatever window is judged: each answer keeps the counts and the time within what is proper.
-- Assumes nothing.
use Prim.Native.Nat.{ℕ, ◌+◌, ◌≤◌}
use native.Mathlib.Omega.{arith}
use mathlib.Core.Path.{◌≡◌, refl}
use mathlib.Core.Bool.{true}
use lib.Dec.{leb}
use Rattle.std.specs.Prelude.{Result}
use Rattle.block.specs.declared.Body.{Body}
use Rattle.block.specs.declared.Refused.{Refused}
use Rattle.record.specs.declared.Edition.{Edition}
use Rattle.timekeeping.specs.declared.Time.{Time}
use Rattle.timekeeping.specs.Times.{usable_in, offered_to}
use Rattle.timekeeping.specs.Proper.{is_no_time, is_zero_record, time_proper}
use Rattle.timekeeping.proofs.Choices.{cond_elim}
use Rattle.timekeeping.proofs.StaysProper.{usable_in_lem, time_offered}
use Rattle.locking.specs.declared.Judged.{Judged}
use Rattle.locking.specs.declared.Lock.{Lock}
use Rattle.locking.specs.Locks.{lock_proper}
use Rattle.locking.specs.Modes.{is_good, hunted, tried, held_on, judged_by}
use Rattle.locking.proofs.Choices.{held_elim, proper_elim}
use Rattle.std.proofs.lemmas.Bool.Decides.{nat_tests}

module _ (edition : Edition) where
  abbrev pub Kept : Judged → Type 0
  Kept j = lock_proper edition j.lock ≡ true

  tried_proper : (good : ℕ) (w : Result Body Refused) → good ≤ 2 → Kept (tried good w)
  unfolding tried lock_proper time_proper is_no_time is_zero_record
  tried_proper good w h =
      cond_elim Kept (is_good w)
      (λ _. cond_elim (λ (l : Lock). lock_proper edition l ≡ true) (leb 3 (good + 1)) (λ _. refl) (λ e. grind (arith, nat_tests)))
      (λ _. refl)

  held_proper : (bad : ℕ) (t : Time) (w : Result Body Refused) → bad ≤ 3 → time_proper edition t ≡ true → Kept (held_on edition bad t w)
  unfolding lock_proper is_no_time is_zero_record
  held_proper bad t w h e =
      let o : time_proper edition (offered_to edition t (usable_in edition w)) ≡ true = time_offered edition t (usable_in edition w) (usable_in_lem edition w) e in
      held_elim edition Kept bad t w o refl (λ f. grind (arith, nat_tests))

  hunted_proper : (w : Result Body Refused) → Kept (hunted w)
  unfolding hunted lock_proper is_no_time is_zero_record
  hunted_proper w = cond_elim Kept (is_good w) (λ _. refl) (λ _. refl)

  -- the lock after a window is proper where the lock before it was
  pub judged_proper : (l : Lock) (w : Result Body Refused) → lock_proper edition l ≡ true → Kept (judged_by edition l w)
  unfolding judged_by
  judged_proper l w e =
      proper_elim edition (λ (l : Lock). Kept (judged_by edition l w)) l e (hunted_proper w) (λ good _ to. tried_proper good w to) (λ bad t few p. held_proper bad t w few p)
