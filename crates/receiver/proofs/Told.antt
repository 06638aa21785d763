-- A run tells the remainder of its last bad block refused with 4: since such a block never tells 0, keeping the last one that is not 0 is
-- keeping the last one.
-- Assumes nothing.
use Prim.Native.Nat.{ℕ}
use mathlib.Core.Bool.{Bool, true, false, cond, not}
use mathlib.Core.List.{List, [], ◌∷◌}
use mathlib.Core.Option.{Option, none, some, get_or, or_else}
use mathlib.Core.Path.{◌≡◌, refl, sym, subst}
use borrow.Author.Tests.{eqb-true, ltb-true}
use lib.Dec.{eqb, ltb}
use Rattle.block.specs.Read.{read_of, refusal_in, remainder_read}
use Rattle.block.proofs.Told.{told_with_4}
use Rattle.record.specs.declared.Edition.{Edition}
use Rattle.locking.specs.declared.Judged.{Judged}
use Rattle.locking.specs.Modes.{no_blocks}
use Rattle.locking.proofs.Choices.{judged_elim}
use Rattle.receiver.specs.declared.Ran.{Ran}
use Rattle.receiver.specs.declared.State.{State}
use Rattle.receiver.specs.States.{lock_in}
use Rattle.receiver.specs.Steps.{Step, step_of}
use Rattle.receiver.specs.Runs.{later, run_from}
use Rattle.receiver.specs.History.{bits_before}
use Rattle.receiver.specs.Told.{told_by, told_with, last_told, RunTells}
use Rattle.receiver.proofs.Choices.{filled, step_elim}
use Rattle.receiver.proofs.Together.{from_next, run_is}

-- 0 where nothing is told, and what is told is not 0
abbrev Tells : Option ℕ → ℕ → Type 0
Tells none r = r ≡ 0
Tells (some told) r = (r ≡ told) × (eqb told 0 ≡ false)

-- ---- one bit

bad_tells : (w : List ℕ) → Tells (cond (eqb (refusal_in (read_of w)) 4) (some (remainder_read (read_of w))) none) (remainder_read (read_of w))
bad_tells w = by (eqb (refusal_in (read_of w)) 4) (told_with_4 w).0
  where
    by : (with4 : Bool) → eqb (remainder_read (read_of w)) 0 ≡ not with4 → Tells (cond with4 (some (remainder_read (read_of w))) none) (remainder_read (read_of w))
    by true e = (refl, e)
    by false e = eqb-true (remainder_read (read_of w)) 0 e

-- ---- one after the other

both_tell : (o p : Option ℕ) (a b : ℕ) → Tells o a → Tells p b → Tells (or_else p o) (later a b)
unfolding or_else
both_tell o none a b x y = rw y x
both_tell o (some told) a b x y = rw (y.0, y.1) (refl, refl)

tells_or_zero : (o : Option ℕ) (r : ℕ) → Tells o r → r ≡ get_or o 0
tells_or_zero none r x = x
tells_or_zero (some told) r x = x.0

module _ (edition : Edition) where
  step_tells : (s : State) (b : ℕ) → Tells (told_with edition s b) (step_of edition s b).blocks.remainder
  step_tells s b =
      let w : List ℕ = filled s b in
      step_elim edition (λ (t : Step). Tells (told_by (read_of w) t.blocks) t.blocks.remainder) s b (λ _. refl)
      (λ _.
      judged_elim edition (λ (j : Judged). Tells (told_by (read_of w) j.blocks) j.blocks.remainder) (lock_in s) (read_of w) (λ _. refl) (λ _. bad_tells w) refl)

  from_tells : (bs : List ℕ) (s : State) → Tells (last_told edition s (bits_before bs)) (run_from edition bs no_blocks 0 s).counts.remainder
  unfolding run_from bits_before last_told
  from_tells [] s = refl
  from_tells (b ∷ bs) s = by (ltb b 2) refl (from_tells bs (step_of edition s b).next)
    where
      by : (bit : Bool) → ltb b 2 ≡ bit → Tells (last_told edition (step_of edition s b).next (bits_before bs)) (run_from edition bs no_blocks 0 (step_of edition s b).next).counts.remainder
          → Tells (last_told edition s (bits_before (b ∷ bs))) (run_from edition (b ∷ bs) no_blocks 0 s).counts.remainder
      by true e on =
          subst (λ (r : Ran State). Tells (last_told edition s (bits_before (b ∷ bs))) r.counts.remainder) (sym (from_next edition b bs s (ltb-true b 2 e)))
          (rw e (both_tell (told_with edition s b) (last_told edition (step_of edition s b).next (bits_before bs)) _ _ (step_tells s b) on))
      by false e on = rw e refl

pub run_tells : RunTells
run_tells edition s bs p h = rw (run_is edition s bs h p) (tells_or_zero (last_told edition s (bits_before bs)) _ (from_tells edition bs s))
