-- What is shown of each answer of a judgement holds of the judgement, and what is shown of each kind of proper lock of every one.
-- Assumes nothing.
use Prim.Native.Nat.{ℕ, ◌+◌, ◌≤◌, ◌<◌}
use mathlib.Core.Path.{◌≡◌, refl, subst}
use native.Mathlib.Omega.{arith}
use mathlib.Core.Bool.{Bool, true, false}
use borrow.Author.Tests.{eqb-true, eqb-false, leb-true, leb-false}
use lib.Dec.{eqb, leb}
use Rattle.block.specs.Read.{remainder_read}
use Rattle.std.specs.Prelude.{Result}
use Rattle.block.specs.declared.Body.{Body}
use Rattle.block.specs.declared.Refused.{Refused}
use Rattle.record.specs.declared.Edition.{Edition}
use Rattle.timekeeping.specs.declared.Time.{Time}
use Rattle.timekeeping.specs.Proper.{time_proper}
use Rattle.timekeeping.specs.Times.{no_time, usable_in, offered_to}
use Rattle.timekeeping.proofs.Choices.{cond_elim}
use Rattle.std.proofs.lemmas.Bool.Decides.{nat_tests}
use Rattle.timekeeping.proofs.NoTime.{zero_time}
use Rattle.locking.specs.declared.Judged.{Judged}
use Rattle.locking.specs.declared.Lock.{Lock}
use Rattle.locking.specs.Locks.{hunting, trying, locked, lock_of, fresh_lock, lock_proper}
use Rattle.locking.specs.Modes.{is_good, good_block, bad_block, passed_over, hunted, tried, held_on, judged_by}

module _ (edition : Edition) where
  -- a judged window is a good block, a bad one, or passes one bit over
  pub judged_elim : (P : Judged → Type 0) (l : Lock) (w : Result Body Refused) → ((k : Lock) → P (good_block k)) → ((k : Lock) → P (bad_block (remainder_read w) k)) → P (passed_over fresh_lock) → P (judged_by edition l w)
  unfolding judged_by hunted tried held_on
  judged_elim P l w good bad passed =
      cond_elim P (eqb l.mode hunting) (λ _. cond_elim P (is_good w) (λ _. good _) (λ _. passed))
      (λ _.
      cond_elim P (eqb l.mode trying) (λ _. cond_elim P (is_good w) (λ _. good _) (λ _. bad _))
      (λ _. cond_elim P (is_good w) (λ _. good _) (λ _. bad _)))

  -- so it counts one of the three
  pub counts_one : (l : Lock) (w : Result Body Refused) {j : Judged} → j ≡ judged_by edition l w → j.blocks.good + j.blocks.bad + j.passed ≡ 1
  counts_one l w e = rw e (judged_elim (λ (j : Judged). j.blocks.good + j.blocks.bad + j.passed ≡ 1) l w (λ _. refl) (λ _. refl) refl)

  -- a locked state stays so, with the block offered to its time, or it is fresh
  pub held_elim : (P : Judged → Type 0) (bad : ℕ) (t : Time) (w : Result Body Refused) → P (good_block (lock_of locked 0 0 (offered_to edition t (usable_in edition w)))) → P (bad_block (remainder_read w) fresh_lock)
      → (bad + 1 < 4 → P (bad_block (remainder_read w) (lock_of locked 0 (bad + 1) (offered_to edition t (usable_in edition w))))) → P (held_on edition bad t w)
  unfolding held_on
  held_elim P bad t w good lost kept =
      cond_elim P (is_good w) (λ _. good)
      (λ _. cond_elim (λ (l : Lock). P (bad_block (remainder_read w) l)) (leb 4 (bad + 1)) (λ _. lost) (λ e. kept (leb-false 4 (bad + 1) e)))

  -- a judged window leaves a fresh lock, or it is one good block more, the third of which locks, or the lock was there already
  pub modes_elim : (P : Judged → Type 0) (l : Lock) (w : Result Body Refused) → ((j : Judged) → j.lock ≡ fresh_lock → P j)
      → (l.mode ≡ hunting → is_good w ≡ true → P (good_block (lock_of trying 1 0 no_time)))
      → (l.mode ≡ trying → is_good w ≡ true → P (good_block (lock_of trying (l.good + 1) 0 no_time)))
      → (l.mode ≡ trying → is_good w ≡ true → 3 ≤ l.good + 1 → P (good_block (lock_of locked 0 0 no_time)))
      → ((l.mode ≡ hunting → ⊥) → (l.mode ≡ trying → ⊥) → P (held_on edition l.bad l.time w)) → P (judged_by edition l w)
  unfolding judged_by hunted tried
  modes_elim P l w fresh first more third held =
      cond_elim P (eqb l.mode hunting) (λ h. cond_elim P (is_good w) (first (eqb-true l.mode hunting h)) (λ _. fresh _ refl))
      (λ h.
      cond_elim P (eqb l.mode trying)
      (λ t.
      let m : l.mode ≡ trying = eqb-true l.mode trying t in
      cond_elim P (is_good w)
      (λ g. cond_elim (λ (k : Lock). P (good_block k)) (leb 3 (l.good + 1)) (λ n. third m g (leb-true 3 (l.good + 1) n)) (λ _. more m g))
      (λ _. fresh _ refl))
      (λ t. held (eqb-false l.mode hunting h) (eqb-false l.mode trying t)))

  -- a window of a locked state
  pub held_judged : (l : Lock) (w : Result Body Refused) → l.mode ≡ locked → judged_by edition l w ≡ held_on edition l.bad l.time w
  unfolding judged_by
  held_judged l w m = rw m

  -- hunting, a window that is no good block passes one bit over
  pub passes_over : (l : Lock) (w : Result Body Refused) → l.mode ≡ hunting → is_good w ≡ false → judged_by edition l w ≡ passed_over fresh_lock
  unfolding judged_by hunted
  passes_over l w m e = rw (m, e)

  -- any other window is used up
  pub uses_up : (l : Lock) (w : Result Body Refused) → (l.mode ≡ hunting → is_good w ≡ true) → (judged_by edition l w).passed ≡ 0
  unfolding judged_by hunted tried held_on
  uses_up l w good = grind (arith, nat_tests)

  -- ---- proper locks

  -- a proper lock is the fresh one, or tries after one or two good blocks, or is locked after at most three bad ones with a proper time
  pub proper_elim : (P : Lock → Type 0) (l : Lock) → lock_proper edition l ≡ true → P fresh_lock → ((good : ℕ) → 1 ≤ good → good ≤ 2 → P (lock_of trying good 0 no_time))
      → ((bad : ℕ) (t : Time) → bad ≤ 3 → time_proper edition t ≡ true → P (lock_of locked 0 bad t)) → P l
  unfolding lock_proper
  proper_elim P l e fresh tries held =
      let Q : Bool → Type 0 = λ t. t ≡ true → P l in
      cond_elim Q (eqb l.mode hunting)
      (λ m h. let all : fresh_lock ≡ l = grind (arith, nat_tests, zero_time) in subst P all fresh)
      (λ _.
      cond_elim Q (eqb l.mode trying)
      (λ m h.
      let all : lock_of trying l.good 0 no_time ≡ l = grind (arith, nat_tests, zero_time) in
      subst P all (tries l.good (grind (arith, nat_tests)) (grind (arith, nat_tests))))
      (λ _ h.
      let all : lock_of locked 0 l.bad l.time ≡ l = grind (arith, nat_tests) in
      subst P all (held l.bad l.time (grind (arith, nat_tests)) (grind (arith, nat_tests)))))
      e
