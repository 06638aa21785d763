-- The last number that passes a test is what it says; and in a history with one bit more the last of what happens is the new bit, if it
-- happens with it, or the last before.
-- Assumes nothing.
use Prim.Native.Nat.{ℕ, zero, suc, ◌+◌, ◌-◌, ◌≤◌}
use native.Mathlib.Numerals.{add-one}
use native.Mathlib.Omega.{arith}
use mathlib.Core.Path.{◌≡◌, refl, ap, ap₂, ◌∙◌, subst}
use mathlib.Core.Bool.{Bool, true, false, cond}
use mathlib.Core.List.{List, [], ◌∷◌}
use mathlib.Core.Logic.{⊎_elim}
use lib.ListN.{length}
use lib.Seq.{take_all, take_at}
use Rattle.record.specs.declared.Edition.{Edition}
use Rattle.record.proofs.Tests.{le_or_lt}
use Rattle.receiver.specs.declared.State.{State}
use Rattle.receiver.specs.History.{after, after_first}
use Rattle.receiver.proofs.EndOfHistory.{◌▹◌, length_more, first_more}
use Rattle.watch.specs.History.{lastly, last_with, IsLast, Lastly}

pub the_last : Lastly
unfolding lastly
the_last test zero = record { within = omega arith; passes = λ h. absurd (omega arith); none_later = λ m h k. absurd (omega arith) }
the_last test (suc n) = by (test (suc n)) refl (the_last test n)
  where
    by : (t : Bool) → test (suc n) ≡ t → IsLast test n (lastly test n) → IsLast test (suc n) (cond (test (suc n)) (suc n) (lastly test n))
    by true e last = rw e (record { within = omega arith; passes = λ _. e; none_later = λ m h k. absurd (omega arith) })
    by false e last =
        rw e
        (record {
          within = omega (arith, last.within);
          passes = last.passes;
          none_later = λ m h k. ⊎_elim (last.none_later m h) (λ g. let now : suc n ≡ m = omega arith in subst (λ (m : ℕ). test m ≡ false) now e) (le_or_lt m n);
        })

-- tests that agree have the same last
lastly_same : (test other : ℕ → Bool) (n : ℕ) → ((m : ℕ) → m ≤ n → test m ≡ other m) → lastly test n ≡ lastly other n
unfolding lastly
lastly_same test other zero same = refl
lastly_same test other (suc n) same =
    ap₂ (λ (t : Bool) (m : ℕ). cond t (suc n) m) (same (suc n) (omega arith)) (lastly_same test other n (λ m h. same m (omega arith)))

module _ (edition : Edition) (l : List ℕ) (b : ℕ) (happens : State → State → Bool) where
  -- what happened before is what it was
  before : lastly (λ n. happens (after_first edition (n - 1) (l ▹ b)) (after_first edition n (l ▹ b))) (length l) ≡ last_with edition l happens
  before = lastly_same _ _ (length l) (λ m h. ap₂ happens (first_more edition l b (m - 1) (omega arith)) (first_more edition l b m h))

  -- the states before and after the last bit
  now : happens (after_first edition (suc (length l) - 1) (l ▹ b)) (after_first edition (suc (length l)) (l ▹ b)) ≡ happens (after edition l) (after edition (l ▹ b))
  now =
      let n : suc (length l) - 1 ≡ length l = omega arith in
      ap₂ happens (rw n (ap (after edition) (take_at l (b ∷ []) (length l) refl))) (ap (after edition) (take_all (suc (length l)) (l ▹ b) (omega (arith, length_more l b))))

  pub last_more : last_with edition (l ▹ b) happens ≡ cond (happens (after edition l) (after edition (l ▹ b))) (length l + 1) (last_with edition l happens)
  unfolding lastly
  last_more =
      let n : length (l ▹ b) ≡ suc (length l) = length_more l b ∙ add-one (length l) in
      rw (n, add-one (length l)) (ap₂ (λ (t : Bool) (m : ℕ). cond t (suc (length l)) m) now before)

  pub last_within : last_with edition l happens ≤ length l
  last_within = (the_last _ (length l)).within
