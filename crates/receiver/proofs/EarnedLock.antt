-- A lock is earned: each step keeps, begins or ends what in the history the mode comes from.
-- Assumes nothing.
use Prim.Native.Nat.{ℕ, zero, suc, ◌+◌, ◌-◌, ◌*◌, ◌≤◌, ◌<◌}
use native.Mathlib.Omega.{arith}
use mathlib.Core.Path.{◌≡◌, refl, sym, ap, ◌∙◌}
use mathlib.Core.Bool.{true}
use mathlib.Core.List.{List, []}
use mathlib.Core.Logic.{⊎_elim}
use lib.ListN.{length}
use lib.Seq.{take_all, take-length}
use Rattle.block.specs.Read.{read_of}
use Rattle.record.specs.declared.Edition.{Edition}
use Rattle.record.proofs.Tests.{le_or_lt}
use Rattle.timekeeping.specs.Times.{no_time}
use Rattle.locking.specs.declared.Judged.{Judged}
use Rattle.locking.specs.declared.Lock.{Lock}
use Rattle.locking.specs.Locks.{hunting, trying, locked, lock_of}
use Rattle.locking.specs.Modes.{is_good, judged_by}
use Rattle.locking.proofs.Choices.{held_elim, modes_elim}
use Rattle.receiver.specs.declared.State.{State}
use Rattle.receiver.specs.States.{state_of, lock_in, fresh_of, nothing_waits}
use Rattle.receiver.specs.Steps.{Step, step_of}
use Rattle.receiver.specs.History.{ran_all, fed_all, after, after_first, GoodBlock, JudgedInPlace, LockedSince, EarnedLock}
use Rattle.receiver.proofs.Choices.{filled, waits, judges, step_elim, mode_of}
use Rattle.receiver.proofs.WholeHistory.{runs_after}
use Rattle.receiver.proofs.EndOfHistory.{◌▹◌, length_more, block_more, first_more, judged_more, locked_now, locked_more, Waiting, window_now, block_now, each_state}

abbrev lock_of_lem : {i j : Judged} → i ≡ j → i.lock ≡ j.lock
lock_of_lem e = ap (λ (j : Judged). j.lock) e

-- n good blocks one after the other, the last ending after the first e bits
abbrev GoodBlocks : List ℕ → ℕ → ℕ → Type 0
GoodBlocks l n e = (k : ℕ) → k < n → GoodBlock l (e - 50 * k)

module _ (edition : Edition) where
  -- what a state's mode comes from: when trying, the good blocks that it counts, up to the bits that wait; when locked, an earned lock
  record Origin (l : List ℕ) (s : State) : Type 0 where
    good : s.mode ≡ trying → GoodBlocks l s.good (length l - s.waiting)
    lock : (s.mode ≡ hunting → ⊥) → (s.mode ≡ trying → ⊥) → EarnedLock edition l s

  fresh_origin : (l : List ℕ) (s : State) → s.mode ≡ hunting → Origin l s
  fresh_origin l s h = record { good = λ t. absurd (omega arith); lock = λ n _. absurd (n h) }

  lock_origin : (l : List ℕ) (s : State) → s.mode ≡ locked → EarnedLock edition l s → Origin l s
  lock_origin l s m q = record { good = λ t. absurd (omega arith); lock = λ _ _. q }

  module _ (l : List ℕ) (b : ℕ) (s : State) where
    -- ---- the lock is kept for one bit more

    module _ (q : EarnedLock edition l s) (now : (after edition (l ▹ b)).mode ≡ locked) where
      lock_more : (next : State) (blocks : ℕ) → ((k : ℕ) → 0 < k → k ≤ blocks → JudgedInPlace edition (l ▹ b) (q.n + 50 * k))
          → length (l ▹ b) ≡ q.n + 50 * blocks + next.waiting → next.waiting < 50
          → lock_in next ≡ lock_in (after_first edition (q.n + 50 * blocks) (l ▹ b)) → EarnedLock edition (l ▹ b) next
      lock_more next blocks judged whole room kept =
          record {
            n = q.n;
            first = block_more l b q.first;
            second = block_more l b q.second;
            third = block_more l b q.third;
            before = rw (first_more edition l b (q.n - 1) (omega (arith, q.third.to))) q.before;
            came = first_more edition l b q.n q.third.to ∙ q.came;
            unbroken = locked_more edition l b q.unbroken now;
            blocks = blocks;
            judged = judged;
            whole = whole;
            room = room;
            kept = kept;
          }

      judged_before : (k : ℕ) → 0 < k → k ≤ q.blocks → JudgedInPlace edition (l ▹ b) (q.n + 50 * k)
      judged_before k h m = judged_more edition l b (q.n + 50 * k) (omega arith) (omega (arith, q.whole)) (q.judged k h m)

      -- the lock is that after the last whole block
      lock_then : lock_in s ≡ lock_in (after_first edition (q.n + 50 * q.blocks) (l ▹ b))
      lock_then = q.kept ∙ ap lock_in (sym (first_more edition l b (q.n + 50 * q.blocks) (omega (arith, q.whole))))

      lock_waits : (w : List ℕ) → s.waiting < 49 → EarnedLock edition (l ▹ b) (state_of (lock_in s) (s.waiting + 1) w)
      lock_waits w few = lock_more _ q.blocks judged_before (omega (arith, length_more l b, q.whole)) (omega arith) lock_then

    module _ (p : Waiting l s) (full : 49 ≤ s.waiting) where
      -- ---- a block is judged when locked

      module _ (q : EarnedLock edition l s) (next : Lock) (e : after edition (l ▹ b) ≡ nothing_waits next)
          (j : next ≡ (judged_by edition (lock_in s) (read_of (filled s b))).lock) (m : next.mode ≡ locked) where
        ends_now : length (l ▹ b) ≡ q.n + 50 * (q.blocks + 1)
        ends_now = omega (arith, length_more l b, q.whole, q.room)

        judged_now : JudgedInPlace edition (l ▹ b) (length (l ▹ b))
        judged_now =
            let start : length (l ▹ b) - 50 ≡ q.n + 50 * q.blocks = omega (arith, ends_now) in
            rw (take-length (l ▹ b), window_now l b s p full, start, ← lock_then q (mode_of e ∙ m), ← j) e

        lock_judged : EarnedLock edition (l ▹ b) (nothing_waits next)
        lock_judged =
            let now = mode_of e ∙ m in
            lock_more q now (nothing_waits next) (q.blocks + 1)
            (λ k h to.
            ⊎_elim (judged_before q now k h)
            (λ last.
            let same : q.n + 50 * k ≡ length (l ▹ b) = omega (arith, ends_now) in
            rw same judged_now)
            (le_or_lt k q.blocks))
            (omega (arith, ends_now)) (omega arith) (rw (← ends_now, take-length (l ▹ b), e))

      -- ---- a good block ends now

      module _ (good : is_good (read_of (filled s b)) ≡ true) where
        good_now : GoodBlock (l ▹ b) (length (l ▹ b))
        good_now = block_now l b s p full good

        good_more : (n e : ℕ) → e ≡ length (l ▹ b) → GoodBlocks l n (length l - s.waiting) → GoodBlocks (l ▹ b) (n + 1) e
        good_more n e end g zero h =
            let same : e - 50 * 0 ≡ length (l ▹ b) = omega arith in
            rw same good_now
        good_more n e end g (suc k) h =
            let same : e - 50 * suc k ≡ length l - s.waiting - 50 * k = omega (arith, length_more l b, p.room) in
            rw same (block_more l b (g k (omega arith)))

        tried_origin : (n : ℕ) → GoodBlocks l n (length l - s.waiting) → Origin (l ▹ b) (nothing_waits (lock_of trying (n + 1) 0 no_time))
        tried_origin n g = record { good = λ _. good_more n (length (l ▹ b) - 0) (omega arith) g; lock = λ _ t. absurd (t refl) }

        -- the third one locks
        lock_now : GoodBlocks l s.good (length l - s.waiting) → 3 ≤ s.good + 1 → ((after edition l).mode ≡ locked → ⊥)
            → after edition (l ▹ b) ≡ nothing_waits (lock_of locked 0 0 no_time) → EarnedLock edition (l ▹ b) (nothing_waits (lock_of locked 0 0 no_time))
        lock_now g three before e =
            let blocks = good_more s.good (length (l ▹ b)) refl g in
            let last : length (l ▹ b) - 1 ≡ length l = omega (arith, length_more l b) in
            let here : length (l ▹ b) + 50 * 0 ≡ length (l ▹ b) = omega arith in
            record {
              n = length (l ▹ b);
              first = blocks 2 (omega arith);
              second = blocks 1 (omega arith);
              third = good_now;
              before = rw (last, first_more edition l b (length l) (omega arith), take-length l) before;
              came = rw (take-length (l ▹ b)) e;
              unbroken = λ m from to. rw (take_all m (l ▹ b) from, e);
              blocks = 0;
              judged = λ k h to. absurd (omega arith);
              whole = omega arith;
              room = omega arith;
              kept = rw (here, take-length (l ▹ b), e);
            }

  -- ---- every step

  module _ (l : List ℕ) (b : ℕ) (s : State) (p : Waiting l s) (v : Origin l s) (here : after edition l ≡ s) where
    -- what a step leads to, where it is the one taken
    abbrev Originates : Step → Type 0
    Originates t = after edition (l ▹ b) ≡ t.next → Origin (l ▹ b) t.next

    waits_origin : s.waiting < 49 → Originates (waits s (filled s b))
    waits_origin few e =
        let same : length (l ▹ b) - (s.waiting + 1) ≡ length l - s.waiting = omega (arith, length_more l b) in
        record {
          good = λ t k h. rw same (block_more l b (v.good t k h));
          lock = λ h t.
              let q = v.lock h t in
              lock_waits l b s q (mode_of e ∙ sym (mode_of here) ∙ locked_now edition l q.unbroken q.third.to) (filled s b) few;
        }

    -- the window is judged so
    abbrev Judges : Judged → Type 0
    Judges j = j ≡ judged_by edition (lock_in s) (read_of (filled s b)) → Originates (judges (filled s b) j)

    judged_origin : 49 ≤ s.waiting → Judges (judged_by edition (lock_in s) (read_of (filled s b)))
    judged_origin full =
        modes_elim edition Judges (lock_in s) (read_of (filled s b)) (λ j f _ _. fresh_origin _ _ (ap (λ (k : Lock). k.mode) f))
        (λ _ good _ _. tried_origin l b s p full good 0 (λ k h. absurd (omega arith)))
        (λ t good _ _. tried_origin l b s p full good s.good (v.good t))
        (λ t good three _ e. lock_origin _ _ refl (lock_now l b s p full good (v.good t) three (λ m. omega (arith, mode_of here)) e))
        (λ h t.
        let on = lock_judged l b s p full (v.lock h t) in
        held_elim edition Judges s.bad _ (read_of (filled s b)) (λ j e. lock_origin _ _ refl (on _ e (lock_of_lem j) refl)) (λ _ _. fresh_origin _ _ refl)
        (λ _ j e. lock_origin _ _ refl (on _ e (lock_of_lem j) refl)))

    originates : Originates (step_of edition s b)
    originates = step_elim edition Originates s b waits_origin (λ full. judged_origin full refl)

  -- ---- every history

  origin : (l : List ℕ) → Origin l (after edition l)
  unfolding fresh_of
  origin = each_state edition Origin originates (fresh_origin [] _ refl)

  -- what neither hunts nor tries is locked, and was so when the bits that wait began
  pub locked_since : (l : List ℕ) → ((after edition l).mode ≡ hunting → ⊥) → ((after edition l).mode ≡ trying → ⊥) → LockedSince edition l (length l - (after edition l).waiting)
  locked_since l h t m from to =
      let q = (origin l).lock h t in
      q.unbroken m (omega (arith, q.whole)) to

  -- whatever was fed, a lock was earned
  pub locked_is_earned : (l : List ℕ) → (after edition l).mode ≡ locked → EarnedLock edition l (after edition l)
  locked_is_earned l m = (origin l).lock (λ h. omega arith) (λ t. omega arith)

  -- the same of the runs that were called, whatever they held and were refused with
  pub runs_locked : (runs : List (List ℕ)) → (ran_all edition fresh_of runs).mode ≡ locked → EarnedLock edition (fed_all runs) (ran_all edition fresh_of runs)
  runs_locked runs = rw (runs_after edition runs) (locked_is_earned (fed_all runs))
