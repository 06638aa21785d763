-- A receiver with nothing waiting at a place of what is heard: it hunts up to the next good window, tries over two more, is locked
-- with the third, and stays so, where good windows follow one another at every fiftieth place.
-- Assumes nothing.
use Prim.Native.Nat.{ℕ, zero, suc, ◌+◌, ◌-◌, ◌*◌, ◌/◌, ◌%◌, ◌≤◌, ◌<◌}
use native.Mathlib.Nat.{add-zero, zero-add}
use native.Mathlib.Omega.{arith}
use mathlib.Core.Path.{◌≡◌, refl, sym, ap, ◌∙◌, subst}
use mathlib.Core.Bool.{true, false}
use mathlib.Core.List.{List, ◌∷◌, ◌++◌}
use mathlib.Core.Logic.{◌⊎◌, inl, inr}
use lib.ListN.{length, get_or, take, drop, length-drop}
use lib.Seq.{length-take-le, take-add, take-take, drop-cons, drop-drop}
use Rattle.std.proofs.Common.{Result}
use Rattle.block.specs.Bits.{zeros}
use Rattle.block.specs.Read.{read_of}
use Rattle.block.specs.declared.Body.{Body}
use Rattle.block.specs.declared.Refused.{Refused}
use Rattle.detection.specs.Slips.{window}
use Rattle.record.specs.declared.Edition.{Edition}
use Rattle.record.proofs.Tests.{le_or_lt}
use Rattle.timekeeping.specs.Times.{no_time}
use Rattle.locking.specs.declared.Lock.{Lock}
use Rattle.locking.specs.Locks.{hunting, trying, locked, lock_of, fresh_lock}
use Rattle.locking.specs.Modes.{is_good, hunted, tried, held_on, judged_by}
use Rattle.locking.proofs.Choices.{held_judged}
use Rattle.receiver.specs.declared.State.{State}
use Rattle.receiver.specs.States.{state_of, nothing_waits}
use Rattle.receiver.specs.History.{after_from}
use Rattle.receiver.proofs.Choices.{mode_of}
use Rattle.acquisition.specs.Heard.{GoodAt, NotGoodAt}
use Rattle.acquisition.specs.Wait.{InStep}
use Rattle.acquisition.proofs.Fed.{few, on, over}

-- the same state, whole blocks later or earlier, is as much in step
pub in_step_as : {s t : State} (m n : ℕ) → m % 50 ≡ n % 50 → s ≡ t → InStep m s → InStep n t
in_step_as m n e same i = subst (InStep n) same (record { is_locked = i.is_locked; in_step = i.in_step ∙ e })

-- ---- good blocks

-- the lock after good blocks one after the other, from hunting on
abbrev pub after_good : ℕ → Lock
after_good zero = fresh_lock
after_good (suc zero) = lock_of trying 1 0 no_time
after_good (suc (suc zero)) = lock_of trying 2 0 no_time
after_good (suc (suc (suc n))) = lock_of locked 0 0 no_time

module _ (edition : Edition) where
  good_counts : (g : ℕ) (w : Result Body Refused) → g < 3 → is_good w ≡ true → (judged_by edition (after_good g) w).lock ≡ after_good (suc g)
  unfolding judged_by hunted tried
  good_counts zero w h e = rw e
  good_counts (suc zero) w h e = rw e
  good_counts (suc (suc zero)) w h e = rw e
  good_counts (suc (suc (suc g))) w h e = absurd (omega arith)

  stays_locked : (l : Lock) (w : Result Body Refused) → l.mode ≡ locked → is_good w ≡ true → (judged_by edition l w).lock.mode ≡ locked
  unfolding held_on
  stays_locked l w m e = rw (held_judged edition l w m, e)

module _ (edition : Edition) (v : List ℕ) where
  -- nothing waits at place k, and the next n bits are heard
  abbrev pub at : Lock → ℕ → ℕ → State
  at l k n = after_from edition (nothing_waits l) (take n (drop k v))

  length_at : (k n : ℕ) → k + n ≤ length v → length (take n (drop k v)) ≡ n
  length_at k n h = length-take-le n (drop k v) (omega (arith, length-drop k v))

  -- fewer than fifty only wait
  at_few : (l : Lock) (k n : ℕ) → n < 50 → k + n ≤ length v → at l k n ≡ state_of l n (take n (drop k v) ++ drop n (zeros 50))
  at_few l k n few-left h = let e = length_at k n h in rw e at (few edition l (take n (drop k v)) (omega arith))

  -- a window is judged and used up
  pub at_on : (l : Lock) (k n : ℕ) → k + (50 + n) ≤ length v → (l.mode ≡ hunting → is_good (read_of (window v k)) ≡ true)
      → at l k (50 + n) ≡ at (judged_by edition l (read_of (window v k))).lock (k + 50) n
  at_on l k n h good =
      ap (after_from edition (nothing_waits l)) (take-add 50 n (drop k v))
      ∙ on edition l (window v k) (take n (drop 50 (drop k v))) (length_at k 50 (omega arith)) good
      ∙ ap (λ (t : List ℕ). after_from edition (nothing_waits (judged_by edition l (read_of (window v k))).lock) (take n t)) (drop-drop 50 k v)

  -- or its first bit is passed over
  at_over : (k n : ℕ) → 49 ≤ n → k + suc n ≤ length v → is_good (read_of (window v k)) ≡ false → at fresh_lock k (suc n) ≡ at fresh_lock (suc k) n
  at_over k n m h bad =
      let x : ℕ = get_or v k 0 in
      let t : List ℕ = drop (suc k) v in
      let e : drop k v ≡ x ∷ t = drop-cons v k 0 (omega arith) in
      let w : window v k ≡ x ∷ take 49 (take n t) = ap (take 50) e ∙ ap (λ (s : List ℕ). x ∷ s) (sym (take-take 49 n t m)) in
      ap (λ (s : List ℕ). after_from edition (nothing_waits fresh_lock) (take (suc n) s)) e
      ∙ over edition x (take n t) (omega (arith, length_at (suc k) n (omega arith))) (rw w at bad)

  -- ---- hunting

  -- as many bits are passed over as there are windows that are not good
  passes : (d k n : ℕ) → 49 ≤ n → k + (d + n) ≤ length v → ((i : ℕ) → k ≤ i → i < k + d → NotGoodAt v i) → at fresh_lock k (d + n) ≡ at fresh_lock (k + d) n
  passes zero k n m h bad = rw (zero-add n, add-zero k)
  passes (suc d) k n m h bad =
      let e : suc d + n ≡ suc (d + n) = omega arith in
      let f : suc k + d ≡ k + suc d = omega arith in
      rw (e, ← f) (at_over k (d + n) (omega arith) (omega arith) (bad k (omega arith) (omega arith) (omega arith))
      ∙ passes d (suc k) n m (omega arith) (λ i a b. bad i (omega arith) (omega arith)))

  -- where no window is good that starts in the next d places
  module _ (k d : ℕ) (bad : (i : ℕ) → k ≤ i → i < k + d → NotGoodAt v i) where
    pub hunts : (n : ℕ) → n < d + 50 → k + n ≤ length v → (at fresh_lock k n).mode ≡ hunting
    hunts n m h = go (le_or_lt 50 n)
      where
        go : (50 ≤ n) ⊎ (n < 50) → (at fresh_lock k n).mode ≡ hunting
        go (inl full) =
            let e : n - 49 + 49 ≡ n = omega arith in
            rw e at (mode_of (passes (n - 49) k 49 (omega arith) (omega arith) (λ i a b. bad i a (omega arith)) ∙ at_few fresh_lock (k + (n - 49)) 49 (omega arith) (omega arith)))
        go (inr few-left) = mode_of (at_few fresh_lock k n few-left h)

    -- and with the last bit of a good one that starts behind them it is over
    pub hunts_no_more : k + (d + 50) ≤ length v → is_good (read_of (window v (k + d))) ≡ true → (at fresh_lock k (d + 50)).mode ≡ trying
    unfolding after_from
    hunts_no_more h good =
        mode_of
        (passes d k 50 (omega arith) h bad ∙ rw (add-zero 50) at (at_on fresh_lock (k + d) 0 (omega arith) (λ _. good))
        ∙ ap nothing_waits (good_counts edition 0 (read_of (window v (k + d))) (omega arith) good))

  -- ---- good windows, one after the other

  -- every window is good whose place leaves r, divided by fifty
  module _ (r : ℕ) (good : (i : ℕ) → i % 50 ≡ r → GoodAt v i) where
    -- good blocks are counted up to three
    pub goods : (j g k n : ℕ) → g + j ≤ 3 → k % 50 ≡ r → k + (50 * j + n) ≤ length v → at (after_good g) k (50 * j + n) ≡ at (after_good (g + j)) (k + 50 * j) n
    goods zero g k n few-yet e h = let f : 50 * 0 + n ≡ n = omega arith in rw (f, add-zero g, add-zero k)
    goods (suc j) g k n few-yet e h =
        let f : 50 * suc j + n ≡ 50 + (50 * j + n) = omega arith in
        let m : suc g + j ≡ g + suc j = omega arith in
        let p : k + 50 + 50 * j ≡ k + 50 * suc j = omega arith in
        let w = good k e (omega arith) in
        rw (f, ← m, ← p)
        (at_on (after_good g) k (50 * j + n) (omega arith) (λ _. w)
        ∙ ap (λ (l : Lock). at l (k + 50) (50 * j + n)) (good_counts edition g (read_of (window v k)) (omega arith) w)
        ∙ goods j (suc g) (k + 50) n (omega arith) (omega arith) (omega arith))

    -- behind so many whole blocks
    keeps : (q : ℕ) (l : Lock) (k n : ℕ) → l.mode ≡ locked → k % 50 ≡ r → n < 50 → k + (50 * q + n) ≤ length v → InStep n (at l k (50 * q + n))
    keeps zero l k n m e few-left h =
        let f : 50 * 0 + n ≡ n = omega arith in
        rw (f, at_few l k n few-left (omega arith)) (record { is_locked = m; in_step = omega arith })
    keeps (suc q) l k n m e few-left h =
        let f : 50 * suc q + n ≡ 50 + (50 * q + n) = omega arith in
        let w = read_of (window v k) in
        rw (f, at_on l k (50 * q + n) (omega arith) (λ t. absurd (omega arith)))
        (keeps q (judged_by edition l w).lock (k + 50) n (stays_locked edition l w m (good k e (omega arith))) (omega arith) few-left (omega arith))

    -- a lock in the right place is kept
    pub kept : (l : Lock) (k n : ℕ) → l.mode ≡ locked → k % 50 ≡ r → k + n ≤ length v → InStep n (at l k n)
    kept l k n m e h =
        let f : 50 * (n / 50) + n % 50 ≡ n = omega arith in
        in_step_as (n % 50) n (omega arith) (ap (at l k) f) (keeps (n / 50) l k (n % 50) m e (omega arith) (omega arith))

    -- ---- from hunting to lock

    -- the next good window starts d places on
    module _ (k d : ℕ) (bad : (i : ℕ) → k ≤ i → i < k + d → NotGoodAt v i) (start : (k + d) % 50 ≡ r) where
      -- up to three good blocks from there on
      found : (j n : ℕ) → 1 ≤ j → j ≤ 3 → k + (d + (50 * j + n)) ≤ length v → at fresh_lock k (d + (50 * j + n)) ≡ at (after_good j) (k + d + 50 * j) n
      found j n a b h = passes d k (50 * j + n) (omega arith) h bad ∙ rw (zero-add j) at (goods j 0 (k + d) n (omega arith) start (omega arith))

      pub tries : (n : ℕ) → d + 50 ≤ n → n < d + 150 → k + n ≤ length v → (at fresh_lock k n).mode ≡ trying
      tries n from to h = go (le_or_lt (d + 100) n)
        where
          go : (d + 100 ≤ n) ⊎ (n < d + 100) → (at fresh_lock k n).mode ≡ trying
          go (inl two) =
              let m : ℕ = n - (d + 100) in
              let e : d + (100 + m) ≡ n = omega arith in
              rw e at (mode_of (found 2 m (omega arith) (omega arith) (omega arith) ∙ at_few (after_good 2) (k + d + 100) m (omega arith) (omega arith)))
          go (inr one) =
              let m : ℕ = n - (d + 50) in
              let e : d + (50 + m) ≡ n = omega arith in
              rw e at (mode_of (found 1 m (omega arith) (omega arith) (omega arith) ∙ at_few (after_good 1) (k + d + 50) m (omega arith) (omega arith)))

      pub locks : k + (d + 150) ≤ length v → at fresh_lock k (d + 150) ≡ nothing_waits (after_good 3)
      unfolding after_from
      locks h = rw (add-zero 150) at (found 3 0 (omega arith) (omega arith) (omega arith))

      pub stays : (n : ℕ) → d + 150 ≤ n → k + n ≤ length v → InStep (n - d) (at fresh_lock k n)
      stays n from h =
          let m : ℕ = n - (d + 150) in
          let e : d + (150 + m) ≡ n = omega arith in
          in_step_as m (n - d) (omega arith) (sym (found 3 m (omega arith) (omega arith) (omega arith)) ∙ ap (at fresh_lock k) e)
          (kept (after_good 3) (k + d + 150) m refl (omega arith) (omega arith))
