-- From any proper state: it is the lock with nothing waiting, fed with the bits that wait; so a first window may be good that is not
-- wholly in what is heard, and what comes after it is in step soon.
-- Assumes nothing.
use Prim.Native.Nat.{ℕ, zero, suc, ◌+◌, ◌-◌, ◌%◌, ◌≤◌, ◌<◌}
use native.Mathlib.Omega.{arith}
use mathlib.Core.Path.{◌≡◌, refl, sym, ap, ap₂, ◌∙◌, subst}
use mathlib.Core.Bool.{Bool, true, false, and-eq-true_iff}
use mathlib.Core.List.{List, [], ◌∷◌, ◌++◌, append_assoc}
use borrow.Author.Tests.{eqb-true, eqb-false}
use lib.Dec.{eqb, leb, ltb}
use lib.ListN.{length, take, drop, length-append}
use lib.Seq.{length-take-le, take-add, take_at}
use Rattle.std.proofs.Common.{Result}
use Rattle.block.specs.Bits.{zeros}
use Rattle.block.specs.Read.{read_of}
use Rattle.block.specs.declared.Body.{Body}
use Rattle.block.specs.declared.Refused.{Refused}
use Rattle.record.specs.declared.Edition.{Edition}
use Rattle.timekeeping.specs.Proper.{is_no_time, is_zero_record}
use Rattle.timekeeping.proofs.Choices.{cond_elim}
use Rattle.locking.specs.declared.Judged.{Judged}
use Rattle.locking.specs.declared.Lock.{Lock}
use Rattle.locking.specs.Locks.{hunting, trying, fresh_lock, lock_proper}
use Rattle.locking.specs.Modes.{is_good, hunted, tried, held_on, judged_by}
use Rattle.locking.proofs.NoTime.{hunting_fresh}
use Rattle.locking.proofs.StaysProper.{judged_proper}
use Rattle.receiver.specs.declared.State.{State}
use Rattle.receiver.specs.States.{state_of, nothing_waits, lock_in, bits_proper, proper_of}
use Rattle.receiver.specs.History.{after_from}
use Rattle.receiver.proofs.StaysProper.{room, bits_and_lock}
use Rattle.receiver.proofs.WholeHistory.{after_append}
use Rattle.acquisition.specs.Heard.{heard_from, bits_before_block, GoodAt, NotGoodAt}
use Rattle.acquisition.specs.Wait.{InStep, AnyPromise}
use Rattle.acquisition.proofs.Fed.{few, on, over}
use Rattle.acquisition.proofs.Course.{in_step_as}
use Rattle.acquisition.proofs.Windows.{heard_good, heard_other}
use Rattle.acquisition.proofs.Settled.{needs, most_needed, settles}
use Rattle.acquisition.proofs.Joined.{late}

-- places that are not in use hold 0
idle_zeros : (n : ℕ) (bits : List ℕ) → bits_proper n bits ≡ true → bits ≡ take n bits ++ drop n (zeros (length bits))
unfolding bits_proper
idle_zeros zero [] e = refl
idle_zeros (suc n) [] e = refl
idle_zeros zero (b ∷ bits) e =
    let p = (and-eq-true_iff (eqb b 0) (bits_proper zero bits)).0 e in
    ap₂ (λ (x : ℕ) (t : List ℕ). x ∷ t) (eqb-true b 0 p.0) (idle_zeros zero bits p.1)
idle_zeros (suc n) (b ∷ bits) e = ap (λ (t : List ℕ). b ∷ t) (idle_zeros n bits ((and-eq-true_iff (ltb b 2) (bits_proper n bits)).0 e).1)

module _ (edition : Edition) where
  -- a proper state is its lock, fed with the bits that wait
  as_fed : (s : State) → length s.bits ≡ 50 → proper_of edition s ≡ true → after_from edition (nothing_waits (lock_in s)) (take s.waiting s.bits) ≡ s
  as_fed s places proper =
      let n : ℕ = s.waiting in
      let p : List ℕ = take n s.bits in
      let size : length p ≡ n = length-take-le n s.bits (omega (arith, room edition s proper)) in
      few edition (lock_in s) p (omega (arith, room edition s proper))
      ∙ ap (λ (k : ℕ). state_of (lock_in s) k (p ++ drop k (zeros 50))) size
      ∙ ap (state_of (lock_in s) n) (sym (subst (λ (k : ℕ). s.bits ≡ p ++ drop n (zeros k)) places (idle_zeros n s.bits (bits_and_lock edition s proper).0)))

  -- a window that is not good leaves a lock that needs a block less
  bad_needs : (l : Lock) (w : Result Body Refused) → is_good w ≡ false → needs (judged_by edition l w).lock ≤ 300
  unfolding judged_by hunted tried held_on
  bad_needs l w e =
      let P : Judged → Type 0 = λ j. needs j.lock ≤ 300 in
      rw e
      (cond_elim P (eqb l.mode hunting) (λ _. omega arith)
      (λ _.
      cond_elim P (eqb l.mode trying) (λ _. omega arith)
      (λ _. cond_elim (λ (k : Lock). needs k ≤ 300) (leb 4 (l.bad + 1)) (λ _. omega arith) (λ _. omega arith))))

  -- good windows start at the places that leave r, divided by fifty; among the first 300 places there are no others; and from the start
  -- of what is heard a good window of bits that wait and bits that are heard, and the bits behind it to the next start, are 91 at most
  module _ (v : List ℕ) (r : ℕ) (below : r < 50) (good : (i : ℕ) → i % 50 ≡ r → GoodAt v i) (other : (i : ℕ) → i < 300 → (i % 50 ≡ r → ⊥) → NotGoodAt v i)
      (late : (p : List ℕ) → 0 < length p → length p < 50 → is_good (read_of (p ++ take (50 - length p) v)) ≡ true → 50 - length p + (r + length p) % 50 ≤ 91)
      (n : ℕ) (long : 441 ≤ n) (h : n ≤ length v) where
    -- p waits
    module _ (p : List ℕ) (some : 0 < length p) (few_wait : length p < 50) where
      abbrev k : ℕ
      k = 50 - length p

      abbrev d : ℕ
      d = (r + length p) % 50

      abbrev w : List ℕ
      w = p ++ take k v

      abbrev rest : List ℕ
      rest = take (n - k) (drop k v)

      full : length w ≡ 50
      full = omega (arith, length-append p (take k v), length-take-le k v (omega arith))

      cut : p ++ take n v ≡ w ++ rest
      cut =
          let e : k + (n - k) ≡ n = omega arith in
          ap (λ (m : ℕ). p ++ take m v) (sym e) ∙ ap (λ (t : List ℕ). p ++ t) (take-add k (n - k) v) ∙ sym (append_assoc p (take k v) rest)

      judged_on : (l : Lock) → lock_proper edition l ≡ true → (l.mode ≡ hunting → is_good (read_of w) ≡ true) → k + d + needs (judged_by edition l (read_of w)).lock ≤ 441
          → InStep (n - r) (after_from edition (nothing_waits l) (p ++ take n v))
      judged_on l proper used enough =
          in_step_as (n - k - d) (n - r) (omega arith) (sym (ap (after_from edition (nothing_waits l)) cut ∙ on edition l w rest full used))
          (settles edition v r good 300 other k d (n - k) (omega arith) (omega arith) (omega arith) (omega arith) (judged_by edition l (read_of w)).lock (judged_proper edition l (read_of w) proper) (omega arith))

    -- one of them more
    module _ (x : ℕ) (p : List ℕ) (few_wait : length (x ∷ p) < 50) (l : Lock) (proper : lock_proper edition l ≡ true) where
      some : 0 < length (x ∷ p)
      some = omega arith

      abbrev first : List ℕ
      first = w (x ∷ p) some few_wait

      abbrev Joins : List ℕ → Lock → Type 0
      Joins q m = InStep (n - r) (after_from edition (nothing_waits m) (q ++ take n v))

      passed_over : is_good (read_of first) ≡ false → l.mode ≡ hunting → Joins p fresh_lock → Joins (x ∷ p) l
      passed_over bad m on-with =
          let e : take 50 ((x ∷ p) ++ take n v) ≡ first = ap (take 50) (cut (x ∷ p) some few_wait) ∙ take_at first (rest (x ∷ p) some few_wait) 50 (full (x ∷ p) some few_wait) in
          in_step_as (n - r) (n - r) refl
          (sym (over edition x (p ++ take n v) (omega (arith, length-append p (take n v), length-take-le n v h)) (ap (λ (t : List ℕ). is_good (read_of t)) e ∙ bad))
          ∙ ap (λ (k : Lock). after_from edition (nothing_waits k) ((x ∷ p) ++ take n v)) (sym (hunting_fresh edition l proper m)))
          on-with

      joined : Joins p fresh_lock → Joins (x ∷ p) l
      joined on-with = by (is_good (read_of first)) (eqb l.mode hunting) refl refl
        where
          by : (g m : Bool) → is_good (read_of first) ≡ g → eqb l.mode hunting ≡ m → Joins (x ∷ p) l
          by true m g e =
              judged_on (x ∷ p) some few_wait l proper (λ _. g) (omega (arith, late (x ∷ p) some few_wait g, most_needed (judged_by edition l (read_of first)).lock))
          by false true g e = passed_over g (eqb-true l.mode hunting e) on-with
          by false false g e =
              judged_on (x ∷ p) some few_wait l proper (λ m. absurd (eqb-false l.mode hunting e m)) (omega (arith, bad_needs l (read_of first) g))

    any_wait : (p : List ℕ) (l : Lock) → length p < 50 → lock_proper edition l ≡ true → InStep (n - r) (after_from edition (nothing_waits l) (p ++ take n v))
    unfolding lock_proper is_no_time is_zero_record
    any_wait [] l few_wait proper = settles edition v r good 300 other 0 r n below (omega arith) (omega arith) (omega arith) l proper (omega (arith, most_needed l))
    any_wait (x ∷ p) l few_wait proper = joined x p few_wait l proper (any_wait p fresh_lock (omega arith) refl)

pub any_promise : AnyPromise
any_promise edition messages left s h far places proper n long most =
    let v : List ℕ = heard_from left messages in
    let r : ℕ = bits_before_block left in
    let p : List ℕ = take s.waiting s.bits in
    in_step_as (n - r) (left + n) (omega arith)
    (after_append edition (nothing_waits (lock_in s)) p (take n v) ∙ ap (λ (t : State). after_from edition t (take n v)) (as_fed edition s places proper))
    (any_wait edition v r (omega arith) (heard_good messages left h) (heard_other messages left h 300 far) (late messages left h) n (omega arith) most p (lock_in s)
    (omega (arith, room edition s proper, length-take-le s.waiting s.bits (omega (arith, room edition s proper)))) (bits_and_lock edition s proper).1)
