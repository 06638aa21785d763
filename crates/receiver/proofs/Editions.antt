-- Lock and counts know no edition: fed the same bits, a receiver waits, counts and locks in each edition alike, and tells the same
-- remainder. So a program that tells nothing of the time may run in either.
-- Assumes nothing.
use Prim.Native.Nat.{ℕ, ◌+◌}
use mathlib.Core.Path.{◌≡◌, refl, subst}
use mathlib.Core.Bool.{cond}
use mathlib.Core.List.{List, [], ◌∷◌}
use lib.Dec.{ltb}
use lib.ListN.{length, set}
use Rattle.block.specs.Read.{read_of}
use Rattle.record.specs.declared.Edition.{Edition}
use Rattle.locking.specs.declared.Blocks.{Blocks}
use Rattle.locking.specs.Modes.{no_blocks}
use Rattle.locking.proofs.Editions.{both, Alike, judged_alike}
use Rattle.receiver.specs.declared.Ran.{Ran}
use Rattle.receiver.specs.declared.State.{State}
use Rattle.receiver.specs.States.{state_of, lock_in, fresh_of}
use Rattle.receiver.specs.Steps.{Step, judged_step, step_of}
use Rattle.receiver.specs.Runs.{plus, run_from, run_of}
use Rattle.receiver.specs.History.{after_from, after}
use Rattle.receiver.proofs.StaysProper.{fresh_proper}

-- the same state, times apart
pub record AlikeStates (s t : State) : Type 0 where
  pub lock : Alike (lock_in s) (lock_in t)
  pub waiting : s.waiting ≡ t.waiting
  pub bits : s.bits ≡ t.bits

record SameStep (p q : Step) : Type 0 where
  blocks : p.blocks ≡ q.blocks
  passed : p.passed ≡ q.passed
  next : AlikeStates p.next q.next

record SameRun (p q : Ran State) : Type 0 where
  counts : p.counts ≡ q.counts
  state : AlikeStates p.state q.state

-- the step with which a bit makes of n waiting bits this window
abbrev joined : Edition → State → ℕ → List ℕ → Step
joined edition s n w = cond (ltb n 49) (record { blocks = no_blocks; passed = 0; next = state_of (lock_in s) (n + 1) w }) (judged_step edition s w)

module _ (a b : Edition) where
  judged_same : (s t : State) (w : List ℕ) → AlikeStates s t → SameStep (judged_step a s w) (judged_step b t w)
  unfolding judged_step
  judged_same s t w e =
      let j = judged_alike a b (lock_in s) (lock_in t) (read_of w) e.lock in
      record { blocks = j.blocks; passed = j.passed; next = record { lock = j.lock; waiting = rw j.passed; bits = rw j.passed } }

  joined_same : (s t : State) (n : ℕ) (w : List ℕ) → AlikeStates s t → SameStep (joined a s n w) (joined b t n w)
  joined_same s t n w e =
      both SameStep (ltb n 49) (record { blocks = refl; passed = refl; next = record { lock = e.lock; waiting = refl; bits = refl } }) (judged_same s t w e)

  step_same : (s t : State) (bit : ℕ) → AlikeStates s t → SameStep (step_of a s bit) (step_of b t bit)
  unfolding step_of
  step_same s t bit e =
      subst (λ (n : ℕ). SameStep (step_of a s bit) (joined b t n (set t.bits n bit))) e.waiting
      (subst (λ (l : List ℕ). SameStep (step_of a s bit) (joined b t s.waiting (set l s.waiting bit))) e.bits
      (joined_same s t s.waiting (set s.bits s.waiting bit) e))

  from_alike : (s t : State) (bits : List ℕ) → AlikeStates s t → AlikeStates (after_from a s bits) (after_from b t bits)
  unfolding after_from
  from_alike s t [] e = e
  from_alike s t (bit ∷ bits) e = from_alike (step_of a s bit).next (step_of b t bit).next bits (step_same s t bit e).next

  from_same : (bits : List ℕ) (blocks : Blocks) (passed : ℕ) (s t : State) → AlikeStates s t
      → SameRun (run_from a bits blocks passed s) (run_from b bits blocks passed t)
  unfolding run_from
  from_same [] blocks passed s t e = record { counts = rw e.waiting; state = e }
  from_same (bit ∷ bits) blocks passed s t e =
      let one = step_same s t bit e in
      both SameRun (ltb bit 2)
      (rw (one.blocks, one.passed) (from_same bits (plus blocks (step_of b t bit).blocks) (passed + (step_of b t bit).passed) _ _ one.next))
      (record { counts = rw e.waiting; state = e })

  fresh_alike : AlikeStates fresh_of fresh_of
  fresh_alike = record { lock = record { mode = refl; good = refl; bad = refl }; waiting = refl; bits = refl }

  -- after any history
  pub after_alike : (history : List ℕ) → AlikeStates (after a history) (after b history)
  after_alike history = from_alike fresh_of fresh_of history fresh_alike

  -- and of a run from a fresh state, refused or not
  pub same_counts : (bits : List ℕ) → (run_of a fresh_of bits).counts ≡ (run_of b fresh_of bits).counts
  unfolding run_of
  same_counts bits =
      rw ((fresh_proper a).proper, (fresh_proper b).proper)
      (both (λ (p q : Ran State). p.counts ≡ q.counts) (ltb 65536 (length bits)) refl (from_same bits no_blocks 0 fresh_of fresh_of fresh_alike).counts)
