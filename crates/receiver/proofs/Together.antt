-- Runs one after the other are one run: the steps go on from the state reached, the counts add up, and the later remainder stays.
-- Assumes nothing.
use Prim.Native.Nat.{ℕ, ◌+◌, ◌≤◌, ◌<◌}
use native.Mathlib.Nat.{add_assoc, add-zero, zero-add}
use native.Mathlib.Omega.{arith}
use mathlib.Core.Path.{◌≡◌, refl, sym, ap, ap₂, ◌∙◌}
use mathlib.Core.Bool.{true, cond}
use mathlib.Core.List.{List, [], ◌∷◌, ◌++◌}
use borrow.Author.Tests.{lt-ltb, le-ltb}
use lib.Dec.{ltb}
use lib.ListN.{length, length-append}
use Rattle.block.specs.Bits.{Bits}
use Rattle.refusal.specs.Numbers.{number_of}
use Rattle.refusal.specs.declared.Refusal.TheVariants.{NotABit, Improper}
use Rattle.record.specs.declared.Edition.{Edition}
use Rattle.timekeeping.proofs.Choices.{cond_elim}
use Rattle.locking.specs.declared.Blocks.{Blocks}
use Rattle.locking.specs.Modes.{no_blocks}
use Rattle.receiver.specs.declared.Ran.{Ran}
use Rattle.receiver.specs.declared.State.{State}
use Rattle.receiver.specs.States.{proper_of}
use Rattle.receiver.specs.Steps.{Step, step_of}
use Rattle.receiver.specs.Runs.{plus, counts_of, blocks_in, ended, run_from, refused_run, run_of, fed_of}
use Rattle.receiver.proofs.Adding.{none_plus, plus_assoc}
use Rattle.receiver.proofs.StaysProper.{Proper, run_proper}

-- ---- the counts

-- a run with more counted before it
abbrev pub counted : Blocks → ℕ → Ran State → Ran State
counted blocks passed r =
    record {
      counts = counts_of r.counts.refusal (plus blocks (blocks_in r.counts)) (passed + r.counts.passed) r.counts.waiting;
      state = r.state;
    }

-- a run with its refusal changed to that of a bit that is none
abbrev pub stopped : Ran State → Ran State
stopped r = record { counts = counts_of (number_of NotABit) (blocks_in r.counts) r.counts.passed r.counts.waiting; state = r.state }

module _ (edition : Edition) where
  -- one fed bit answers as a run of that bit alone
  pub fed_run : (s : State) (b : ℕ) → fed_of edition s b ≡ run_of edition s (b ∷ [])
  unfolding fed_of run_of run_from
  fed_run s b =
      let t : Step = step_of edition s b in
      ap₂ (λ (n : Blocks) (p : ℕ). cond (proper_of edition s) (cond (ltb b 2) (ended 0 n p t.next) (ended (number_of NotABit) no_blocks 0 s)) (refused_run (number_of Improper) s))
      (sym (none_plus t.blocks)) (sym (zero-add t.passed))

  from_counted : (bs : List ℕ) (before : Blocks) (over : ℕ) (blocks : Blocks) (passed : ℕ) (s : State)
      → run_from edition bs (plus before blocks) (over + passed) s ≡ counted before over (run_from edition bs blocks passed s)
  unfolding run_from
  from_counted [] before over blocks passed s = refl
  from_counted (b ∷ bs) before over blocks passed s =
      let t : Step = step_of edition s b in
      cond_elim (λ (r : Ran State). run_from edition (b ∷ bs) (plus before blocks) (over + passed) s ≡ counted before over r) (ltb b 2)
      (λ e. rw (e, plus_assoc before blocks t.blocks, add_assoc over passed t.passed) (from_counted bs before over _ _ t.next))
      (λ e. rw e)

  -- ---- two strings

  -- a run counts those waiting that wait in its state
  pub from_waiting : (xs : List ℕ) (blocks : Blocks) (passed : ℕ) (s : State) → (run_from edition xs blocks passed s).counts.waiting ≡ (run_from edition xs blocks passed s).state.waiting
  unfolding run_from
  from_waiting [] blocks passed s = refl
  from_waiting (x ∷ xs) blocks passed s = cond_elim (λ (r : Ran State). r.counts.waiting ≡ r.state.waiting) (ltb x 2) (λ _. from_waiting xs _ _ (step_of edition s x).next) (λ _. refl)

  -- a run of bits is not refused
  pub from_bits : (xs : List ℕ) (blocks : Blocks) (passed : ℕ) (s : State) → Bits xs → (run_from edition xs blocks passed s).counts.refusal ≡ 0
  unfolding run_from
  from_bits [] blocks passed s h = refl
  from_bits (x ∷ xs) blocks passed s h = rw (lt-ltb x 2 h.0) (from_bits xs _ _ (step_of edition s x).next h.1)

  -- a run goes on with ys
  abbrev onwards : List ℕ → Ran State → Ran State
  onwards ys r = run_from edition ys (blocks_in r.counts) r.counts.passed r.state

  from_append : (xs ys : List ℕ) (blocks : Blocks) (passed : ℕ) (s : State) → Bits xs → run_from edition (xs ++ ys) blocks passed s ≡ onwards ys (run_from edition xs blocks passed s)
  unfolding run_from
  from_append [] ys blocks passed s h = refl
  from_append (x ∷ xs) ys blocks passed s h = rw (lt-ltb x 2 h.0) (from_append xs ys _ _ (step_of edition s x).next h.1)

  onwards_counted : (ys : List ℕ) (r : Ran State) → onwards ys r ≡ counted (blocks_in r.counts) r.counts.passed (run_from edition ys no_blocks 0 r.state)
  onwards_counted ys r = simp add-zero at (from_counted ys (blocks_in r.counts) r.counts.passed no_blocks 0 r.state)

  -- a run of bits is the step of the first and then the run of the others, with what both count and tell
  pub from_next : (b : ℕ) (bs : List ℕ) (s : State) → b < 2
      → run_from edition (b ∷ bs) no_blocks 0 s ≡ counted (step_of edition s b).blocks (step_of edition s b).passed (run_from edition bs no_blocks 0 (step_of edition s b).next)
  unfolding run_from
  from_next b bs s h =
      let t : Step = step_of edition s b in
      rw (lt-ltb b 2 h, none_plus t.blocks, zero-add) (onwards_counted bs (ended 0 t.blocks t.passed t.next))

  -- a run within the limit, from a proper state
  pub run_is : (s : State) (bs : List ℕ) → length bs ≤ 65536 → proper_of edition s ≡ true → run_of edition s bs ≡ run_from edition bs no_blocks 0 s
  unfolding run_of
  run_is s bs h e = rw (le-ltb 65536 (length bs) h, e)

  module _ (s : State) (xs ys : List ℕ) (p : Proper edition s) (h : Bits xs) (limit : length (xs ++ ys) ≤ 65536) where
    first_is : run_of edition s xs ≡ run_from edition xs no_blocks 0 s
    first_is = run_is s xs (omega (arith, length-append xs ys)) p.proper

    both_are : run_of edition s (xs ++ ys) ≡ onwards ys (run_of edition s xs)
    both_are = run_is s (xs ++ ys) limit p.proper ∙ from_append xs ys no_blocks 0 s h ∙ ap (onwards ys) (sym first_is)

    -- a run of two strings is the run of the first and then of the second, with what both count and tell
    pub together : run_of edition s (xs ++ ys) ≡ counted (blocks_in (run_of edition s xs).counts) (run_of edition s xs).counts.passed (run_of edition (run_of edition s xs).state ys)
    together =
        let q : Proper edition (run_of edition s xs).state = run_proper edition s xs p in
        both_are ∙ onwards_counted ys (run_of edition s xs)
        ∙ ap (counted (blocks_in (run_of edition s xs).counts) (run_of edition s xs).counts.passed)
        (sym (run_is (run_of edition s xs).state ys (omega (arith, length-append xs ys)) q.proper))

  -- a run refused with 1 is the run of the bits before the bad one
  pub before_bad : (s : State) (xs : List ℕ) (b : ℕ) (ys : List ℕ) → Proper edition s → Bits xs → 2 ≤ b → length (xs ++ b ∷ ys) ≤ 65536 → run_of edition s (xs ++ b ∷ ys) ≡ stopped (run_of edition s xs)
  unfolding run_from
  before_bad s xs b ys p h bad limit =
      both_are s xs (b ∷ ys) p h limit
      ∙ rw (le-ltb b 2 bad, first_is s xs (b ∷ ys) p h limit, from_waiting xs no_blocks 0 s)
