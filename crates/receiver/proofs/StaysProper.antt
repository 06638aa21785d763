-- A proper state stays proper: each answer of a step keeps the bits, the counts and the time within what is proper.
-- Assumes nothing.
use Prim.Native.Nat.{ℕ, zero, suc, ◌+◌, ◌≤◌, ◌<◌}
use native.Mathlib.Omega.{arith}
use native.Mathlib.Numerals.{add-one}
use mathlib.Core.Path.{◌≡◌, refl}
use mathlib.Core.Bool.{true, and-eq-true_iff}
use mathlib.Core.List.{List, [], ◌∷◌, ◌++◌}
use borrow.Author.Tests.{ltb-true, lt-ltb}
use lib.Dec.{eqb, ltb}
use lib.ListN.{length, set, drop}
use Rattle.block.specs.Read.{read_of}
use Rattle.record.specs.declared.Edition.{Edition}
use Rattle.timekeeping.specs.Proper.{is_no_time, is_zero_record}
use Rattle.timekeeping.proofs.Choices.{cond_elim}
use Rattle.locking.specs.declared.Blocks.{Blocks}
use Rattle.locking.specs.declared.Judged.{Judged}
use Rattle.locking.specs.declared.Lock.{Lock}
use Rattle.locking.specs.Locks.{lock_proper}
use Rattle.locking.specs.Modes.{no_blocks, judged_by}
use Rattle.locking.proofs.Choices.{judged_elim}
use Rattle.locking.proofs.StaysProper.{Kept, judged_proper}
use Rattle.receiver.specs.declared.Ran.{Ran}
use Rattle.receiver.specs.declared.State.{State}
use Rattle.receiver.specs.States.{fresh_of, lock_in, bits_proper, proper_of}
use Rattle.receiver.specs.Steps.{Step, step_of}
use Rattle.receiver.specs.Runs.{run_from, run_of}
use Rattle.receiver.proofs.Choices.{filled, waits, judges, step_elim}
use Rattle.receiver.proofs.Room.{filled_places, step_places}

-- ---- the bits

bits_set : (w : ℕ) (l : List ℕ) (b : ℕ) → b < 2 → w < length l → bits_proper w l ≡ true → bits_proper (suc w) (set l w b) ≡ true
unfolding bits_proper
bits_set w [] b h k e = absurd (omega arith)
bits_set zero (x ∷ l) b h k e = (and-eq-true_iff _ _).1 (lt-ltb b 2 h, ((and-eq-true_iff (eqb x 0) (bits_proper zero l)).0 e).1)
bits_set (suc w) (x ∷ l) b h k e = let p = (and-eq-true_iff (ltb x 2) (bits_proper w l)).0 e in (and-eq-true_iff _ _).1 (p.0, bits_set w l b h (omega arith) p.1)

bits_more : (l : List ℕ) → bits_proper (length l) l ≡ true → bits_proper (length l) (l ++ 0 ∷ []) ≡ true
unfolding bits_proper
bits_more [] e = refl
bits_more (x ∷ l) e = let p = (and-eq-true_iff (ltb x 2) (bits_proper (length l) l)).0 e in (and-eq-true_iff _ _).1 (p.0, bits_more l p.1)

bits_shift : (l : List ℕ) → length l ≡ 50 → bits_proper 50 l ≡ true → bits_proper 49 (drop 1 l ++ 0 ∷ []) ≡ true
unfolding bits_proper
bits_shift [] h e = absurd (omega arith)
bits_shift (x ∷ l) h e =
    let n : length l ≡ 49 = omega arith in
    let p : bits_proper 49 l ≡ true = ((and-eq-true_iff (ltb x 2) (bits_proper 49 l)).0 e).1 in
    rw n at (bits_more l (rw n p))

module _ (edition : Edition) where
  -- ---- the state

  -- a proper state, in fifty places
  pub record Proper (s : State) : Type 0 where
    pub places : length s.bits ≡ 50
    pub proper : proper_of edition s ≡ true

  module _ (s : State) (e : proper_of edition s ≡ true) where
    pub room : s.waiting < 50
    unfolding proper_of
    room = ltb-true s.waiting 50 ((and-eq-true_iff _ _).0 e).0

    pub bits_and_lock : (bits_proper s.waiting s.bits ≡ true) × (lock_proper edition (lock_in s) ≡ true)
    unfolding proper_of
    bits_and_lock = (and-eq-true_iff (bits_proper s.waiting s.bits) _).0 ((and-eq-true_iff (ltb s.waiting 50) _).0 e).1

  module _ (s : State) (p : Proper s) (b : ℕ) (bit : b < 2) where
    more : bits_proper (s.waiting + 1) (filled s b) ≡ true
    more = rw (add-one s.waiting) (bits_set s.waiting s.bits b bit (omega (arith, room s p.proper)) (bits_and_lock s p.proper).0)

    grown : s.waiting < 49 → proper_of edition (waits s (filled s b)).next ≡ true
    unfolding proper_of
    grown h = (and-eq-true_iff _ _).1 (lt-ltb (s.waiting + 1) 50 (omega arith), (and-eq-true_iff _ _).1 (more, (bits_and_lock s p.proper).1))

    full : 49 ≤ s.waiting → bits_proper 50 (filled s b) ≡ true
    full h = let e : s.waiting + 1 ≡ 50 = omega (arith, room s p.proper) in rw e at more

  judged_state : (l : Lock) (w : List ℕ) → lock_proper edition l ≡ true → length w ≡ 50 → bits_proper 50 w ≡ true → proper_of edition (judges w (judged_by edition l (read_of w))).next ≡ true
  unfolding proper_of bits_proper
  judged_state l w e h k =
      judged_elim edition (λ (j : Judged). Kept edition j → proper_of edition (judges w j).next ≡ true) l (read_of w) (λ _ p. p) (λ _ p. p) (λ p. (and-eq-true_iff _ _).1 (bits_shift w h k, p))
      (judged_proper edition l (read_of w) e)

  -- a step leaves a proper state proper
  pub step_proper : (s : State) (b : ℕ) → b < 2 → Proper s → Proper (step_of edition s b).next
  step_proper s b bit p =
      record {
        places = step_places edition s b p.places;
        proper = step_elim edition (λ (t : Step). proper_of edition t.next ≡ true) s b (grown s p b bit)
            (λ h. judged_state (lock_in s) (filled s b) (bits_and_lock s p.proper).1 (filled_places s b p.places) (full s p b bit h));
      }

  pub from_proper : (bs : List ℕ) (blocks : Blocks) (passed : ℕ) (s : State) → Proper s → Proper (run_from edition bs blocks passed s).state
  unfolding run_from
  from_proper [] blocks passed s p = p
  from_proper (b ∷ bs) blocks passed s p =
      cond_elim (λ (r : Ran State). Proper r.state) (ltb b 2) (λ c. from_proper bs _ _ (step_of edition s b).next (step_proper s b (ltb-true b 2 c) p)) (λ _. p)

  -- so does a run, refused or not
  pub run_proper : (s : State) (bs : List ℕ) → Proper s → Proper (run_of edition s bs).state
  unfolding run_of
  run_proper s bs p =
      cond_elim (λ (r : Ran State). Proper r.state) (ltb 65536 (length bs)) (λ _. p)
      (λ _. cond_elim (λ (r : Ran State). Proper r.state) (proper_of edition s) (λ _. from_proper bs no_blocks 0 s p) (λ _. p))

  pub fresh_proper : Proper fresh_of
  unfolding fresh_of proper_of bits_proper lock_proper is_no_time is_zero_record
  fresh_proper = record { places = refl; proper = refl }
