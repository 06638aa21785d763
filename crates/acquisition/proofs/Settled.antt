-- Whatever lock there is when nothing waits, it is soon in step with the good windows: trying is over with the first window that is not
-- good, and a lock in another place with the fourth.
-- Assumes nothing.
use Prim.Native.Nat.{ℕ, zero, suc, ◌+◌, ◌-◌, ◌*◌, ◌%◌, ◌≤◌, ◌<◌}
use native.Mathlib.Nat.{add-zero}
use native.Mathlib.Omega.{arith}
use mathlib.Core.Path.{◌≡◌, refl, sym, ap, ◌∙◌}
use mathlib.Core.Bool.{true, false, cond}
use mathlib.Core.List.{List}
use mathlib.Core.Logic.{⊎_elim}
use borrow.Author.Tests.{lt-leb}
use lib.Dec.{eqb}
use lib.ListN.{length}
use Rattle.std.proofs.Common.{Result}
use Rattle.block.specs.Read.{read_of}
use Rattle.block.specs.declared.Body.{Body}
use Rattle.block.specs.declared.Refused.{Refused}
use Rattle.detection.specs.Slips.{window}
use Rattle.record.specs.declared.Edition.{Edition}
use Rattle.record.proofs.Tests.{le_or_lt}
use Rattle.timekeeping.specs.Times.{no_time}
use Rattle.timekeeping.proofs.Choices.{cond_elim}
use Rattle.locking.specs.declared.Lock.{Lock}
use Rattle.locking.specs.Locks.{hunting, trying, locked, lock_of, fresh_lock, lock_proper}
use Rattle.locking.specs.Modes.{is_good, tried, held_on, judged_by}
use Rattle.locking.proofs.Choices.{held_judged, proper_elim}
use Rattle.acquisition.specs.Heard.{GoodAt, NotGoodAt}
use Rattle.acquisition.specs.Wait.{InStep}
use Rattle.acquisition.proofs.Course.{in_step_as, after_good, at, at_on, goods, kept, stays}

-- how many bits a lock needs from the place d bits before the start of a good window, besides these d
abbrev pub needs : Lock → ℕ
needs l = cond (eqb l.mode hunting) 150 (cond (eqb l.mode trying) 200 (350 - 50 * l.bad))

pub most_needed : (l : Lock) → needs l ≤ 350
most_needed l =
    cond_elim (λ (n : ℕ). n ≤ 350) (eqb l.mode hunting) (λ _. omega arith)
    (λ _. cond_elim (λ (n : ℕ). n ≤ 350) (eqb l.mode trying) (λ _. omega arith) (λ _. omega arith))

-- trying after one or two good blocks
tries_after : (g : ℕ) → 1 ≤ g → g ≤ 2 → after_good g ≡ lock_of trying g 0 no_time
tries_after zero a b = absurd (omega arith)
tries_after (suc zero) a b = refl
tries_after (suc (suc zero)) a b = refl
tries_after (suc (suc (suc g))) a b = absurd (omega arith)

module _ (edition : Edition) where
  -- ---- a window that is not good

  tried_ends : (g : ℕ) (w : Result Body Refused) → is_good w ≡ false → (judged_by edition (lock_of trying g 0 no_time) w).lock ≡ fresh_lock
  unfolding judged_by tried
  tried_ends g w e = rw e

  fourth_ends : (l : Lock) (w : Result Body Refused) → l.mode ≡ locked → l.bad ≡ 3 → is_good w ≡ false → (judged_by edition l w).lock ≡ fresh_lock
  unfolding held_on
  fourth_ends l w m b e = rw (held_judged edition l w m, e, b)

  bad_counts : (l : Lock) (w : Result Body Refused) → l.mode ≡ locked → l.bad < 3 → is_good w ≡ false
      → ((judged_by edition l w).lock.mode ≡ locked) × ((judged_by edition l w).lock.bad ≡ l.bad + 1)
  unfolding held_on
  bad_counts l w m b e = rw (held_judged edition l w m, e, lt-leb 4 (l.bad + 1) (omega arith)) (refl, refl)

  -- good windows start at the places that leave r, divided by fifty, and before `to` there are no others
  module _ (v : List ℕ) (r : ℕ) (good : (i : ℕ) → i % 50 ≡ r → GoodAt v i) (to : ℕ) (other : (i : ℕ) → i < to → (i % 50 ≡ r → ⊥) → NotGoodAt v i) where
    -- a lock in another place is lost with the fourth bad block in a row
    loses : (j : ℕ) (l : Lock) (k n : ℕ) → l.mode ≡ locked → l.bad + j ≡ 3 → (k % 50 ≡ r → ⊥) → k + 50 * suc j ≤ to → k + (50 * suc j + n) ≤ length v
        → at edition v l k (50 * suc j + n) ≡ at edition v fresh_lock (k + 50 * suc j) n
    loses zero l k n m b inside limit h =
        let w = read_of (window v k) in
        at_on edition v l k n h (λ t. absurd (omega arith))
        ∙ ap (λ (x : Lock). at edition v x (k + 50) n) (fourth_ends l w m (omega arith) (other k (omega arith) inside (omega arith)))
    loses (suc j) l k n m b inside limit h =
        let w = read_of (window v k) in
        let c = bad_counts l w m (omega arith) (other k (omega arith) inside (omega arith)) in
        let f : 50 * suc (suc j) + n ≡ 50 + (50 * suc j + n) = omega arith in
        let p : k + 50 + 50 * suc j ≡ k + 50 * suc (suc j) = omega arith in
        rw (f, ← p)
        (at_on edition v l k (50 * suc j + n) (omega arith) (λ t. absurd (omega arith))
        ∙ loses j (judged_by edition l w).lock (k + 50) n c.0 (omega (arith, c.1)) (λ z. inside (omega arith)) (omega arith) (omega arith))

    -- d bits before the start of a good window
    module _ (k d n : ℕ) (near : d < 50) (start : (k + d) % 50 ≡ r) (limit : k + d + 200 ≤ to) (h : k + n ≤ length v) where
      -- hunting, some whole blocks further on, it is in step soon
      hunted_on : (j m : ℕ) → j ≤ 4 → 50 * j + m ≡ n → d + 150 ≤ m → InStep (n - d) (at edition v fresh_lock (k + 50 * j) m)
      hunted_on j m a e b =
          in_step_as (m - d) (n - d) (omega arith) refl
          (stays edition v r good (k + 50 * j) d (λ i x y. other i (omega arith) (λ z. omega arith)) (omega arith) m b (omega arith))

      -- trying: in the right place it is counted on, in another it is over with this block
      tried_on : (g : ℕ) → 1 ≤ g → g ≤ 2 → d + 200 ≤ n → InStep (n - d) (at edition v (lock_of trying g 0 no_time) k n)
      tried_on g a b e = ⊎_elim in_place elsewhere (le_or_lt d 0)
        where
          in_place : d ≤ 0 → InStep (n - d) (at edition v (lock_of trying g 0 no_time) k n)
          in_place z =
              let j : ℕ = 3 - g in
              let m : ℕ = n - 50 * j in
              let f : 50 * j + m ≡ n = omega arith in
              let t : g + j ≡ 3 = omega arith in
              in_step_as m (n - d) (omega arith)
              (ap (λ (x : ℕ). at edition v (after_good x) (k + 50 * j) m) (sym t) ∙ sym (goods edition v r good j g k m (omega arith) (omega arith) (omega arith))
              ∙ ap (λ (x : Lock). at edition v x k (50 * j + m)) (tries_after g a b) ∙ ap (at edition v (lock_of trying g 0 no_time) k) f)
              (kept edition v r good (after_good 3) (k + 50 * j) m refl (omega arith) (omega arith))

          elsewhere : 0 < d → InStep (n - d) (at edition v (lock_of trying g 0 no_time) k n)
          elsewhere p =
              let f : 50 + (n - 50) ≡ n = omega arith in
              let bad = other k (omega arith) (λ z. omega arith) (omega arith) in
              in_step_as (n - d) (n - d) refl
              (ap (λ (x : Lock). at edition v x (k + 50) (n - 50)) (sym (tried_ends g (read_of (window v k)) bad))
              ∙ sym (at_on edition v (lock_of trying g 0 no_time) k (n - 50) (omega arith) (λ t. absurd (omega arith))) ∙ ap (at edition v (lock_of trying g 0 no_time) k) f)
              (hunted_on 1 (n - 50) (omega arith) f (omega arith))

      -- locked: in the right place it is kept, in another it is lost
      held_on_lem : (l : Lock) → l.mode ≡ locked → l.bad ≤ 3 → d + (350 - 50 * l.bad) ≤ n → InStep (n - d) (at edition v l k n)
      held_on_lem l m b e =
          ⊎_elim (λ z. in_step_as n (n - d) (omega arith) refl (kept edition v r good l k n m (omega arith) h))
          (λ p.
          let j : ℕ = 3 - l.bad in
          let rest : ℕ = n - 50 * suc j in
          let f : 50 * suc j + rest ≡ n = omega arith in
          in_step_as (n - d) (n - d) refl (sym (loses j l k rest m (omega arith) (λ z. omega arith) (omega arith) (omega arith)) ∙ ap (at edition v l k) f)
          (hunted_on (suc j) rest (omega arith) f (omega arith)))
          (le_or_lt d 0)

      pub settles : (l : Lock) → lock_proper edition l ≡ true → d + needs l ≤ n → InStep (n - d) (at edition v l k n)
      settles l proper =
          proper_elim edition (λ (l : Lock). d + needs l ≤ n → InStep (n - d) (at edition v l k n)) l proper
          (λ e. rw (add-zero k) at (hunted_on 0 n (omega arith) (omega arith) e)) tried_on (λ bad t few _. held_on_lem (lock_of locked 0 bad t) refl few)
