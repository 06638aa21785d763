-- A string fed to a lock with which nothing waits: fewer than fifty bits wait and leave the lock as it was, fifty are judged and used
-- up, and a bit that is passed over is as if it had not been heard.
-- Assumes nothing.
use Prim.Native.Nat.{ℕ, ◌+◌, ◌≤◌, ◌<◌}
use native.Mathlib.Nat.{add-zero, zero-add}
use native.Mathlib.Omega.{arith}
use mathlib.Core.Path.{◌≡◌, refl, sym, ap, ◌∙◌}
use mathlib.Core.Bool.{true, false}
use mathlib.Core.List.{List, [], ◌∷◌, ◌++◌, append_assoc, append-nil}
use borrow.Author.Tests.{lt-ltb}
use lib.ListN.{length, get_or, take, drop, length-append, take-append-drop}
use lib.Seq.{append_snoc, length-take-le, set_at, split_at, take_all, take-suc}
use Rattle.block.specs.Bits.{zeros}
use Rattle.block.specs.Read.{read_of}
use Rattle.record.specs.declared.Edition.{Edition}
use Rattle.locking.specs.declared.Judged.{Judged}
use Rattle.locking.specs.declared.Lock.{Lock}
use Rattle.locking.specs.Locks.{hunting, fresh_lock}
use Rattle.locking.specs.Modes.{is_good, judged_by}
use Rattle.locking.proofs.Choices.{passes_over, uses_up}
use Rattle.receiver.specs.declared.State.{State}
use Rattle.receiver.specs.States.{state_of, nothing_waits}
use Rattle.receiver.specs.Steps.{waiting_after, bits_after, judged_step, step_of}
use Rattle.receiver.specs.History.{after_from}
use Rattle.receiver.proofs.WholeHistory.{after_append}

module _ (edition : Edition) where
  -- p waits, and q are the places that are not in use yet
  joins : (l : Lock) (xs p q : List ℕ) (k : ℕ) → length p ≡ k → length xs ≤ length q → k + length xs < 50
      → after_from edition (state_of l k (p ++ q)) xs ≡ state_of l (k + length xs) ((p ++ xs) ++ drop (length xs) q)
  unfolding after_from step_of
  joins l [] p q k a b c = rw (add-zero k, append-nil p)
  joins l (x ∷ xs) p [] k a b c = absurd (omega arith)
  joins l (x ∷ xs) p (y ∷ q) k a b c =
      let e : k + length (x ∷ xs) ≡ k + 1 + length xs = omega arith in
      rw (lt-ltb k 49 (omega arith), set_at p y q x k a, e, ← append_assoc p (x ∷ []) q, ← append_assoc p (x ∷ []) xs)
      (joins l xs (p ++ x ∷ []) q (k + 1) (omega (arith, length-append p (x ∷ []))) (omega arith) (omega arith))

  pub few : (l : Lock) (v : List ℕ) → length v < 50 → after_from edition (nothing_waits l) v ≡ state_of l (length v) (v ++ drop (length v) (zeros 50))
  few l v h = joins l v [] (zeros 50) 0 refl (omega arith) (omega arith) ∙ rw zero-add

  -- the fiftieth bit has the window judged
  full : (l : Lock) (xs : List ℕ) (b : ℕ) → length xs ≡ 49
      → (step_of edition (state_of l (length xs) (xs ++ drop (length xs) (zeros 50))) b).next
      ≡ (let j : Judged = judged_by edition l (read_of (xs ++ b ∷ [])) in state_of j.lock (waiting_after j) (bits_after j (xs ++ b ∷ [])))
  unfolding step_of judged_step
  full l xs b h = rw (h, set_at xs 0 [] b 49 h)

  module _ (l : Lock) (xs : List ℕ) (b : ℕ) (rest : List ℕ) (h : length xs ≡ 49) where
    abbrev window : List ℕ
    window = xs ++ b ∷ []

    abbrev judged : Judged
    judged = judged_by edition l (read_of window)

    fills : after_from edition (nothing_waits l) (xs ++ b ∷ rest) ≡ after_from edition (state_of judged.lock (waiting_after judged) (bits_after judged window)) rest
    unfolding after_from
    fills =
        after_append edition (nothing_waits l) xs (b ∷ rest)
        ∙ ap (λ (s : State). after_from edition s (b ∷ rest)) (few l xs (omega arith)) ∙ ap (λ (s : State). after_from edition s rest) (full l xs b h)

    used : judged.passed ≡ 0 → after_from edition (nothing_waits l) (xs ++ b ∷ rest) ≡ after_from edition (nothing_waits judged.lock) rest
    used e = rw e at fills

  -- a window that is used up
  pub on : (l : Lock) (w rest : List ℕ) → length w ≡ 50 → (l.mode ≡ hunting → is_good (read_of w) ≡ true)
      → after_from edition (nothing_waits l) (w ++ rest) ≡ after_from edition (nothing_waits (judged_by edition l (read_of w)).lock) rest
  on l w rest h good =
      let xs : List ℕ = take 49 w in
      let b : ℕ = get_or w 49 0 in
      let e : w ≡ xs ++ b ∷ [] = sym (take_all 50 w (omega arith)) ∙ take-suc w 49 0 (omega arith) in
      ap (λ (t : List ℕ). after_from edition (nothing_waits l) (t ++ rest)) e
      ∙ ap (after_from edition (nothing_waits l)) (append_snoc xs b rest)
      ∙ used l xs b rest (length-take-le 49 w (omega arith)) (uses_up edition l (read_of (xs ++ b ∷ [])) (rw e at good))
      ∙ ap (λ (t : List ℕ). after_from edition (nothing_waits (judged_by edition l (read_of t)).lock) rest) (sym e)

  passed : (x : ℕ) (xs : List ℕ) (b : ℕ) (rest : List ℕ) → length xs ≡ 48 → is_good (read_of (x ∷ xs ++ b ∷ [])) ≡ false
      → after_from edition (nothing_waits fresh_lock) (x ∷ xs ++ b ∷ rest) ≡ after_from edition (nothing_waits fresh_lock) ((xs ++ b ∷ []) ++ rest)
  passed x xs b rest h bad =
      let n : length (xs ++ b ∷ []) ≡ 49 = omega (arith, length-append xs (b ∷ [])) in
      rw (passes_over edition fresh_lock (read_of (x ∷ xs ++ b ∷ [])) refl bad) at (fills fresh_lock (x ∷ xs) b rest (omega arith))
      ∙ ap (λ (s : State). after_from edition s rest) (sym (rw n at (few fresh_lock (xs ++ b ∷ []) (omega arith))))
      ∙ sym (after_append edition (nothing_waits fresh_lock) (xs ++ b ∷ []) rest)

  -- a bit that is passed over
  pub over : (x : ℕ) (v : List ℕ) → 49 ≤ length v → is_good (read_of (take 50 (x ∷ v))) ≡ false
      → after_from edition (nothing_waits fresh_lock) (x ∷ v) ≡ after_from edition (nothing_waits fresh_lock) v
  over x v h bad =
      let e : take 49 v ≡ take 48 v ++ get_or v 48 0 ∷ [] = take-suc v 48 0 (omega arith) in
      ap (λ (t : List ℕ). after_from edition (nothing_waits fresh_lock) (x ∷ t)) (split_at v 48 0 (omega arith))
      ∙ passed x (take 48 v) (get_or v 48 0) (drop 49 v) (length-take-le 48 v (omega arith)) (rw e at bad)
      ∙ ap (λ (t : List ℕ). after_from edition (nothing_waits fresh_lock) (t ++ drop 49 v)) (sym e)
      ∙ ap (after_from edition (nothing_waits fresh_lock)) (take-append-drop 49 v)
