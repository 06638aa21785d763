-- Waiting before + bits fed = 50(good + bad) + passed + waiting after: every step balances, so a run does.
-- Assumes nothing.
use Prim.Native.Nat.{ℕ, ◌+◌, ◌*◌, ◌<◌}
use native.Mathlib.Omega.{arith}
use mathlib.Core.Path.{◌≡◌, refl}
use mathlib.Core.List.{List, [], ◌∷◌}
use lib.Dec.{ltb}
use lib.ListN.{length}
use Rattle.block.specs.Read.{read_of}
use Rattle.refusal.specs.Numbers.{number_of}
use Rattle.refusal.specs.declared.Refusal.TheVariants.{RunTooLong, Improper}
use Rattle.record.specs.declared.Edition.{Edition}
use Rattle.timekeeping.proofs.Choices.{cond_elim}
use Rattle.locking.specs.declared.Blocks.{Blocks}
use Rattle.locking.specs.declared.Judged.{Judged}
use Rattle.locking.specs.Modes.{no_blocks}
use Rattle.locking.proofs.Choices.{judged_elim}
use Rattle.receiver.specs.declared.Ran.{Ran}
use Rattle.receiver.specs.declared.State.{State}
use Rattle.receiver.specs.States.{lock_in, proper_of}
use Rattle.receiver.specs.Steps.{Step, step_of}
use Rattle.receiver.specs.Runs.{plus, blocks_in, run_from, run_of}
use Rattle.receiver.specs.History.{bits_before}
use Rattle.receiver.proofs.Choices.{filled, judges, step_elim}
use Rattle.receiver.proofs.Room.{step_room}
use Rattle.receiver.proofs.StaysProper.{room}

-- so many bits are fifty for each block, those passed over and those that wait
abbrev pub MadeUp : ℕ → Blocks → ℕ → ℕ → Type 0
MadeUp n blocks passed waiting = n ≡ 50 * (blocks.good + blocks.bad) + passed + waiting

-- so a step makes up the bits that waited before it, and its own
abbrev Stepped : ℕ → Step → Type 0
Stepped n t = MadeUp n t.blocks t.passed t.next.waiting

-- so for a run
abbrev Balanced : ℕ → Ran State → Type 0
Balanced n r = MadeUp n (blocks_in r.counts) r.counts.passed r.counts.waiting

module _ (edition : Edition) where
  pub step_balance : (s : State) (b : ℕ) → s.waiting < 50 → Stepped (s.waiting + 1) (step_of edition s b)
  step_balance s b h =
      step_elim edition (Stepped (s.waiting + 1)) s b (λ _. omega arith)
      (λ full.
      let e : s.waiting + 1 ≡ 50 = omega arith in
      rw e (judged_elim edition (λ (j : Judged). Stepped 50 (judges (filled s b) j)) (lock_in s) (read_of (filled s b)) (λ _. refl) (λ _. refl) refl))

  pub from_balance : (bs : List ℕ) (blocks : Blocks) (passed : ℕ) (s : State) → s.waiting < 50
      → Balanced (s.waiting + length (bits_before bs) + 50 * (blocks.good + blocks.bad) + passed) (run_from edition bs blocks passed s)
  unfolding run_from bits_before
  from_balance [] blocks passed s h = omega arith
  from_balance (b ∷ bs) blocks passed s h =
      let t : Step = step_of edition s b in
      cond_elim (Balanced (s.waiting + length (bits_before (b ∷ bs)) + 50 * (blocks.good + blocks.bad) + passed)) (ltb b 2)
      (λ e. rw e (omega (arith, step_balance s b h, from_balance bs (plus blocks t.blocks) (passed + t.passed) t.next (step_room edition s b))))
      (λ e. rw e (omega arith))

  -- unless the run is refused with 9 or 10, what waited and what was fed balance with what it counts
  pub balance : (s : State) (bs : List ℕ) → ((run_of edition s bs).counts.refusal ≡ number_of RunTooLong → ⊥) → ((run_of edition s bs).counts.refusal ≡ number_of Improper → ⊥)
      → Balanced (s.waiting + length (bits_before bs)) (run_of edition s bs)
  unfolding run_of
  balance s bs =
      let P : Ran State → Type 0 = λ r. (r.counts.refusal ≡ number_of RunTooLong → ⊥) → (r.counts.refusal ≡ number_of Improper → ⊥)
      → Balanced (s.waiting + length (bits_before bs)) r in
      cond_elim P (ltb 65536 (length bs)) (λ _ long _. absurd (long refl))
      (λ _. cond_elim P (proper_of edition s) (λ e _ _. omega (arith, from_balance bs no_blocks 0 s (room edition s e))) (λ _ _ improper. absurd (improper refl)))
