-- A run bit by bit, as the loop goes: a bit that only waits, a bit that fills the window, a bit with which the run is to end, a bit
-- that is none, and the end.
-- Assumes nothing.
use mathlib.Core.Bool.{Bool, true, false, cond, not, and-eq-true_iff}
use mathlib.Core.List.{List, [], ◌∷◌}
use mathlib.Core.Path.{◌≡◌, refl, sym}
use Prim.Native.Nat.{ℕ, ◌+◌, ◌<◌, ◌≤◌}
use native.Mathlib.Nat.{add-zero, add-suc, suc-add}
use native.Mathlib.Numerals.{add-one}
use borrow.Author.Tests.{lt-ltb, le-ltb, eq-eqb}
use lib.Dec.{eqb}
use lib.ListN.{set}
use Rattle.block.specs.Read.{read_of}
use Rattle.refusal.specs.Numbers.{number_of}
use Rattle.refusal.specs.declared.Refusal.TheVariants.{NotABit}
use Rattle.record.specs.declared.Edition.{Edition}
use Rattle.locking.specs.declared.Blocks.{Blocks}
use Rattle.locking.specs.declared.Judged.{Judged}
use Rattle.locking.specs.declared.Lock.{Lock}
use Rattle.locking.specs.Locks.{locked}
use Rattle.locking.specs.Modes.{judged_by}
use Rattle.receiver.specs.declared.State.{State}
use Rattle.receiver.specs.declared.Stretch.{Stretch}
use Rattle.receiver.specs.declared.Until.{Until}
use Rattle.receiver.specs.declared.Until.TheVariants.{LastBit, LockChange, AnyChange}
use Rattle.receiver.specs.States.{state_of, lock_in}
use Rattle.receiver.specs.Steps.{Step, step_of, judged_step}
use Rattle.receiver.specs.Runs.{plus, ended, run_from}
use Rattle.receiver.specs.History.{bits_before}
use Rattle.receiver.specs.Packed.{packed_ran}
use Rattle.receiver.specs.Changes.{same_lock, runs_on, up_to, with_fed, stretch_from}
use Rattle.receiver.proofs.Adding.{plus_none}
use Rattle.receiver.proofs.Choices.{waits, judges}

same_lock_lem : (m : ℕ) → same_lock m m ≡ true
unfolding same_lock
same_lock_lem m = by (eqb m locked)
  where
    by : (t : Bool) → cond t t (not t) ≡ true
    by true = refl
    by false = refl

-- behind a bit that leaves the lock as it was every run goes on
pub runs_same : (until : Until) (l : Lock) → runs_on until l l ≡ true
unfolding runs_on
runs_same LastBit l = refl
runs_same LockChange l = same_lock_lem l.mode
runs_same AnyChange l = (and-eq-true_iff _ _).1 (same_lock_lem l.mode, eq-eqb l.time.kind l.time.kind refl)

module _ (edition : Edition) where
  -- a run of what is left, with what was fed and counted before
  abbrev pub going_on : Until → List ℕ → ℕ → Blocks → ℕ → State → Stretch
  going_on until bs fed blocks passed s = stretch_from edition (up_to edition until s bs) fed blocks passed s

  module _ (until : Until) (fed : ℕ) (blocks : Blocks) (passed : ℕ) (s : State) where
    pub on_done : going_on until [] fed blocks passed s ≡ with_fed (packed_ran (ended 0 blocks passed s)) fed
    unfolding run_from bits_before up_to
    on_done = simp add-zero

    module _ (b : ℕ) (bs : List ℕ) where
      -- a value that is no bit ends every run
      pub on_stops : 2 ≤ b → going_on until (b ∷ bs) fed blocks passed s ≡ with_fed (packed_ran (ended (number_of NotABit) blocks passed s)) fed
      unfolding run_from bits_before up_to
      on_stops h = rw (le-ltb b 2 h, add-zero)

      -- one bit, and what is left behind it
      on_steps : b < 2 → (t : Step) → t ≡ step_of edition s b → (on : Bool) → on ≡ runs_on until (lock_in s) (lock_in t.next)
          → going_on until (b ∷ bs) fed blocks passed s
          ≡ stretch_from edition (cond on (up_to edition until t.next bs) []) (fed + 1) (plus blocks t.blocks) (passed + t.passed) t.next
      unfolding run_from bits_before up_to
      on_steps h t e on left = rw (left, e, lt-ltb b 2 h, add-one, suc-add, add-suc)

  module _ (until : Until) (fed : ℕ) (blocks : Blocks) (passed b : ℕ) (bs : List ℕ) (bit : b < 2) (l : Lock) (w : ℕ) (window : List ℕ) where
    waiting : w < 49 → waits (state_of l w window) (set window w b) ≡ step_of edition (state_of l w window) b
    unfolding step_of
    waiting m = rw (lt-ltb w 49 m)

    pub on_waits : w < 49
        → going_on until (b ∷ bs) fed blocks passed (state_of l w window)
        ≡ going_on until bs (fed + 1) blocks passed (state_of l (w + 1) (set window w b))
    on_waits m =
        let s : State = state_of l w window in
        rw (plus_none blocks, add-zero passed)
        at (on_steps until fed blocks passed s b bs bit (waits s (set window w b)) (waiting m) true (sym (runs_same until l)))

    module _ (m : 49 ≤ w) (j : Judged) (e : j ≡ judged_by edition l (read_of (set window w b))) where
      judgement : judges (set window w b) j ≡ step_of edition (state_of l w window) b
      unfolding step_of judged_step
      judgement = rw (e, le-ltb w 49 m)

      pub on_judges : runs_on until l j.lock ≡ true
          → going_on until (b ∷ bs) fed blocks passed (state_of l w window)
          ≡ going_on until bs (fed + 1) (plus blocks j.blocks) (passed + j.passed) (judges (set window w b) j).next
      on_judges on = on_steps until fed blocks passed (state_of l w window) b bs bit (judges (set window w b) j) judgement true (sym on)

      pub on_ends : runs_on until l j.lock ≡ false
          → going_on until (b ∷ bs) fed blocks passed (state_of l w window)
          ≡ with_fed (packed_ran (ended 0 (plus blocks j.blocks) (passed + j.passed) (judges (set window w b) j).next)) (fed + 1)
      unfolding run_from bits_before
      on_ends change =
          rw (add-zero (fed + 1))
          at (on_steps until fed blocks passed (state_of l w window) b bs bit (judges (set window w b) j) judgement false (sym change))
