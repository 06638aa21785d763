-- The promise from a fresh state: the course of the windows heard, whose good ones are the whole blocks; and without lock no time, since
-- a held time asks for lock.
-- Assumes nothing.
use Prim.Native.Nat.{ℕ, zero, suc, ◌+◌, ◌-◌, ◌%◌, ◌≤◌, ◌<◌}
use native.Mathlib.Nat.{zero-add}
use native.Mathlib.Omega.{arith}
use mathlib.Core.Bool.{Bool, true, false}
use mathlib.Core.List.{List, [], ◌∷◌}
use mathlib.Core.Logic.{⊎_elim}
use mathlib.Core.Path.{◌≡◌, refl, sym, ap, ◌∙◌}
use borrow.Author.Tests.{eqb-true, eqb-false, ne_eqb}
use lib.Dec.{eqb}
use lib.ListN.{length, take, length-drop}
use Rattle.block.specs.Read.{read_of}
use Rattle.detection.specs.Slips.{sent, window}
use Rattle.record.specs.declared.Edition.{Edition}
use Rattle.record.proofs.Tests.{le_or_lt}
use Rattle.timekeeping.specs.Times.{none}
use Rattle.locking.specs.Locks.{locked}
use Rattle.locking.specs.Modes.{is_good}
use Rattle.receiver.specs.declared.State.{State}
use Rattle.receiver.specs.declared.Until.TheVariants.{LockChange}
use Rattle.receiver.specs.States.{fresh_of}
use Rattle.receiver.specs.Steps.{step_of}
use Rattle.receiver.specs.History.{after_from, after_first}
use Rattle.receiver.specs.Changes.{same_lock, runs_on, up_to}
use Rattle.receiver.proofs.Choices.{mode_of}
use Rattle.receiver.proofs.Earned.{held_is_locked}
use Rattle.acquisition.specs.Heard.{heard_from, bits_before_block, GoodAt, NotGoodAt}
use Rattle.acquisition.specs.Wait.{Acquires, wait, WaitBounds, Promise, FarPromise, FirstChange, NoLockNoTime}
use Rattle.acquisition.proofs.Course.{hunts, hunts_no_more, tries, locks, stays}
use Rattle.acquisition.proofs.Windows.{window_heard, heard_good, heard_other}

-- no window before the first is good, and from there on every fiftieth is
pub acquires : (edition : Edition) (heard : List ℕ) (before : ℕ) → before < 50 → ((i : ℕ) → i < before → NotGoodAt heard i)
    → ((i : ℕ) → i % 50 ≡ before → GoodAt heard i) → Acquires edition heard before
unfolding fresh_of
acquires edition heard before h bad good =
    let not : (i : ℕ) → 0 ≤ i → i < 0 + before → NotGoodAt heard i = λ i a b. bad i (omega arith) in
    record {
      hunts = λ n a b. hunts edition heard 0 before not n (omega arith) (omega arith);
      tries = λ n a b c. tries edition heard before good 0 before not (omega arith) n (omega arith) (omega arith) (omega arith);
      locks = λ a. locks edition heard before good 0 before not (omega arith) (omega arith);
      stays = λ n a b. stays edition heard before good 0 before not (omega arith) n (omega arith) (omega arith);
    }

-- a good window before the first would end the hunting too soon
module _ (edition : Edition) (heard : List ℕ) (before : ℕ) (a : Acquires edition heard before) where
  next_not : (k : ℕ) → k < before → ((i : ℕ) → i < k → NotGoodAt heard i) → NotGoodAt heard k
  unfolding fresh_of
  next_not k h none_yet lies = by (is_good (read_of (window heard k))) refl
    where
      by : (t : Bool) → is_good (read_of (window heard k)) ≡ t → is_good (read_of (window heard k)) ≡ false
      by true e = absurd
          (omega (
            arith,
            hunts_no_more edition heard 0 k (λ i _ m. none_yet i (omega arith)) (omega arith) (rw (zero-add k) e),
            a.hunts (k + 50) (omega arith) (omega arith),
          ))
      by false e = e

  none_before : (k : ℕ) → k ≤ before → (i : ℕ) → i < k → NotGoodAt heard i
  none_before zero h i m = absurd (omega arith)
  none_before (suc k) h i m =
      ⊎_elim
      (λ last.
      let e : i ≡ k = omega arith in
      rw e (next_not k (omega arith) (none_before k (omega arith))))
      (none_before k (omega arith) i)
      (le_or_lt k i)

pub far_promise : FarPromise
far_promise edition messages left h =
    let heard = heard_from left messages in
    let n = bits_before_block left in (
      λ far. acquires edition heard n (omega arith) (λ i a. heard_other messages left h n far i a (λ e. omega arith)) (heard_good messages left h),
      λ a start from to late early lies.
          let e : left + (start - left) ≡ start = omega arith in
          rw e
          at (sym (ap (λ (w : List ℕ). is_good (read_of w)) (window_heard messages left h (start - left)))
          ∙ none_before edition heard n a n (omega arith) (start - left) (omega arith) (omega (arith, length-drop left (sent messages)))),
    )

pub promise : Promise
promise edition messages left h only = (far_promise edition messages left h).0 (λ start a b late early. only start a (λ z. omega arith))

-- there is no lock before
pub unlocked : (edition : Edition) (heard : List ℕ) (before : ℕ) → Acquires edition heard before → (m : ℕ) → m < before + 150 → m ≤ length heard
    → (after_first edition m heard).mode ≡ locked → ⊥
unlocked edition heard before a m h lies now =
    ⊎_elim (λ later. omega (arith, a.tries m later h lies)) (λ sooner. omega (arith, a.hunts m sooner lies)) (le_or_lt (before + 50) m)

-- so lock changes first with the bit with which it comes
ends_with : (edition : Edition) (s : State) (bits : List ℕ) (n : ℕ) → 1 ≤ n → n ≤ length bits → ((m : ℕ) → m < n → (after_from edition s (take m bits)).mode ≡ locked → ⊥)
    → (after_from edition s (take n bits)).mode ≡ locked → up_to edition LockChange s bits ≡ take n bits
unfolding after_from up_to runs_on same_lock
ends_with edition s bits zero some h never comes = absurd (omega arith)
ends_with edition s [] (suc n) some h never comes = absurd (omega arith)
ends_with edition s (b ∷ bits) (suc zero) some h never comes = rw (ne_eqb s.mode locked (never 0 (omega arith)), comes)
ends_with edition s (b ∷ bits) (suc (suc n)) some h never comes =
    let t : State = (step_of edition s b).next in
    rw (ne_eqb s.mode locked (never 0 (omega arith)), ne_eqb t.mode locked (never 1 (omega arith)))
    (ap (λ (l : List ℕ). b ∷ l) (ends_with edition t bits (suc n) (omega arith) (omega arith) (λ m k. never (suc m) (omega arith)) comes))

pub first_change : FirstChange
first_change edition messages left h far long =
    let a = (far_promise edition messages left h).0 far in
    ends_with edition fresh_of (heard_from left messages) (wait left) (omega arith) long (λ m k. unlocked edition _ _ a m k (omega arith)) (mode_of (a.locks long))

pub wait_bounds : WaitBounds
wait_bounds =
    record {
      least = λ left h. omega arith;
      most = λ left h. omega arith;
      each = λ n a b. ((200 - n) % 50, omega arith, omega arith);
    }

pub no_lock_no_time : NoLockNoTime
no_lock_no_time edition history never n h = by (eqb (after_first edition n history).time none) refl
  where
    by : (t : Bool) → eqb (after_first edition n history).time none ≡ t → (after_first edition n history).time ≡ none
    by true e = eqb-true (after_first edition n history).time none e
    by false e = absurd (never n h (held_is_locked edition (take n history) (eqb-false (after_first edition n history).time none e)))
