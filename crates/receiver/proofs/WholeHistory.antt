-- Runs one after the other leave the state of the whole history that they fed, each step going on from the last.
-- Assumes nothing.
use Prim.Native.Nat.{ℕ}
use mathlib.Core.Path.{◌≡◌, refl, sym, ap, ◌∙◌}
use mathlib.Core.Bool.{true}
use mathlib.Core.List.{List, [], ◌∷◌, ◌++◌}
use borrow.Author.Tests.{ltb-true, lt-ltb}
use lib.Dec.{ltb}
use lib.ListN.{length}
use Rattle.block.specs.Bits.{Bits}
use Rattle.block.proofs.Strings.{bits_append}
use Rattle.record.specs.declared.Edition.{Edition}
use Rattle.timekeeping.proofs.Choices.{cond_elim}
use Rattle.locking.specs.declared.Blocks.{Blocks}
use Rattle.locking.specs.Modes.{no_blocks}
use Rattle.receiver.specs.declared.Ran.{Ran}
use Rattle.receiver.specs.declared.State.{State}
use Rattle.receiver.specs.States.{fresh_of, proper_of}
use Rattle.receiver.specs.Steps.{step_of}
use Rattle.receiver.specs.Runs.{run_from, run_of}
use Rattle.receiver.specs.History.{bits_before, bits_fed, ran_all, fed_all, after_from, after}
use Rattle.receiver.proofs.StaysProper.{Proper, step_proper, run_proper, fresh_proper}

-- ---- one run

pub before_bits : (bs : List ℕ) → Bits (bits_before bs)
unfolding bits_before
before_bits [] = tt
before_bits (b ∷ bs) = cond_elim Bits (ltb b 2) (λ e. (ltb-true b 2 e, before_bits bs)) (λ _. tt)

-- of bits none is left out
pub bits_before_lem : (bs : List ℕ) → Bits bs → bits_before bs ≡ bs
unfolding bits_before
bits_before_lem [] h = refl
bits_before_lem (b ∷ bs) h = rw (lt-ltb b 2 h.0, bits_before_lem bs h.1)

-- ---- all runs

fed_bits : (bs : List ℕ) → Bits (bits_fed bs)
unfolding bits_fed
fed_bits bs = cond_elim Bits (ltb 65536 (length bs)) (λ _. tt) (λ _. before_bits bs)

pub all_bits : (runs : List (List ℕ)) → Bits (fed_all runs)
unfolding fed_all
all_bits [] = tt
all_bits (bs ∷ runs) = bits_append (bits_fed bs) (fed_all runs) (fed_bits bs) (all_bits runs)

module _ (edition : Edition) where
  pub after_append : (s : State) (xs ys : List ℕ) → after_from edition s (xs ++ ys) ≡ after_from edition (after_from edition s xs) ys
  unfolding after_from
  after_append s [] ys = refl
  after_append s (x ∷ xs) ys = after_append (step_of edition s x).next xs ys

  -- after bits a proper state is proper
  pub after_proper : (s : State) (l : List ℕ) → Bits l → Proper edition s → Proper edition (after_from edition s l)
  unfolding after_from
  after_proper s [] h p = p
  after_proper s (b ∷ l) h p = after_proper (step_of edition s b).next l h.1 (step_proper edition s b h.0 p)

  pub from_after : (bs : List ℕ) (blocks : Blocks) (passed : ℕ) (s : State) → (run_from edition bs blocks passed s).state ≡ after_from edition s (bits_before bs)
  unfolding run_from bits_before after_from
  from_after [] blocks passed s = refl
  from_after (b ∷ bs) blocks passed s =
      cond_elim (λ (r : Ran State). r.state ≡ after_from edition s (bits_before (b ∷ bs))) (ltb b 2) (λ e. rw e (from_after bs _ _ (step_of edition s b).next)) (λ e. rw e)

  run_after : (s : State) (bs : List ℕ) → proper_of edition s ≡ true → (run_of edition s bs).state ≡ after_from edition s (bits_fed bs)
  unfolding run_of bits_fed after_from
  run_after s bs p =
      rw p (cond_elim (λ (r : Ran State). r.state ≡ after_from edition s (bits_fed bs)) (ltb 65536 (length bs)) (λ e. rw e) (λ e. rw e (from_after bs no_blocks 0 s)))

  all_after : (s : State) (runs : List (List ℕ)) → Proper edition s → ran_all edition s runs ≡ after_from edition s (fed_all runs)
  unfolding ran_all fed_all after_from
  all_after s [] p = refl
  all_after s (bs ∷ runs) p =
      all_after (run_of edition s bs).state runs (run_proper edition s bs p)
      ∙ ap (λ (t : State). after_from edition t (fed_all runs)) (run_after s bs p.proper) ∙ sym (after_append s (bits_fed bs) (fed_all runs))

  -- runs from a fresh state leave the state after what they fed
  pub runs_after : (runs : List (List ℕ)) → ran_all edition fresh_of runs ≡ after edition (fed_all runs)
  runs_after runs = all_after fresh_of runs (fresh_proper edition)
