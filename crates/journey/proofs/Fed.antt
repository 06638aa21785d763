-- A block fed bit by bit to a locked receiver with nothing waiting: the bits fill the fifty places in their order, and the last
-- one has the block judged.
-- Assumes nothing.
use Prim.Native.Nat.{ℕ, ◌+◌, ◌<◌}
use native.Mathlib.Nat.{add-zero, zero-add}
use native.Mathlib.Omega.{arith}
use mathlib.Core.Path.{◌≡◌, refl, ap, ◌∙◌}
use mathlib.Core.List.{List, [], ◌∷◌, ◌++◌, append_assoc}
use borrow.Author.Tests.{lt-ltb, le-ltb, lt-leb}
use lib.ListN.{length, length-append}
use lib.Seq.{set_at}
use Rattle.std.proofs.Common.{Result, Ok, Err}
use Rattle.block.specs.Bits.{Bits}
use Rattle.block.specs.Read.{read_of}
use Rattle.block.specs.declared.Body.{Body}
use Rattle.block.specs.declared.Refused.{Refused}
use Rattle.record.specs.declared.Edition.{Edition}
use Rattle.timekeeping.specs.Times.{usable_in, offered_to}
use Rattle.locking.specs.declared.Blocks.{Blocks}
use Rattle.locking.specs.declared.Judged.{Judged}
use Rattle.locking.specs.declared.Lock.{Lock}
use Rattle.locking.specs.Locks.{locked, lock_of}
use Rattle.locking.specs.Modes.{held_on, judged_by}
use Rattle.locking.proofs.Choices.{held_judged}
use Rattle.receiver.specs.declared.Ran.{Ran}
use Rattle.receiver.specs.declared.State.{State}
use Rattle.receiver.specs.States.{state_of, nothing_waits}
use Rattle.receiver.specs.Steps.{waiting_after, bits_after, judged_step, step_of}
use Rattle.receiver.specs.Runs.{plus, run_from}
use Rattle.journey.specs.Journey.{bad_run, count_read}

module _ (edition : Edition) where
  -- a run goes on after a judged window
  abbrev on_from : List ℕ → Blocks → List ℕ → Judged → Ran State
  on_from rest blocks w j = run_from edition rest (plus blocks j.blocks) j.passed (state_of j.lock (waiting_after j) (bits_after j w))

  module _ (rest : List ℕ) (blocks : Blocks) (l : Lock) where
    -- p waits, q are the places that are not in use yet, and as many bits come as there are of those
    fills : (x : ℕ) (xs p q : List ℕ) (k : ℕ) → length p ≡ k → length q ≡ length (x ∷ xs) → k + length (x ∷ xs) ≡ 50 → Bits (x ∷ xs)
        → run_from edition ((x ∷ xs) ++ rest) blocks 0 (state_of l k (p ++ q)) ≡ on_from rest blocks (p ++ x ∷ xs) (judged_by edition l (read_of (p ++ x ∷ xs)))
    unfolding run_from step_of judged_step
    fills x xs p [] k a b c h = absurd (omega arith)
    fills x [] p (y ∷ []) k a b c h = rw (lt-ltb x 2 h.0, le-ltb k 49 (omega arith), set_at p y [] x k a) (simp zero-add)
    fills x [] p (y ∷ z ∷ q) k a b c h = absurd (omega arith)
    fills x (x' ∷ xs) p (y ∷ q) k a b c h =
        rw (lt-ltb x 2 h.0, lt-ltb k 49 (omega arith), set_at p y q x k a, add-zero blocks.good, add-zero blocks.bad, ← append_assoc p (x ∷ []) q, ← append_assoc p (x ∷ []) (x' ∷ xs))
        (fills x' xs (p ++ x ∷ []) q (k + 1) (omega (arith, length-append p (x ∷ []))) (omega arith) (omega arith) h.1)

  -- the lock after a block that does not end it: the block goes into the run of bad ones and is offered to the time
  abbrev pub offered : Lock → Result Body Refused → Lock
  offered l w = lock_of locked 0 (bad_run l.bad w) (offered_to edition l.time (usable_in edition w))

  -- such a block is counted and used up
  pub held : (l : Lock) (w : Result Body Refused) → bad_run l.bad w < 4 → held_on edition l.bad l.time w ≡ record { blocks = count_read w; passed = 0; lock = offered l w }
  unfolding held_on
  held l (Ok body) h = refl
  held l (Err why) h = rw (lt-leb 4 (l.bad + 1) h)

  pub feeds : (w bits rest : List ℕ) (blocks : Blocks) (l : Lock) → length w ≡ 50 → Bits w → length bits ≡ 50 → l.mode ≡ locked
      → bad_run l.bad (read_of w) < 4 → run_from edition (w ++ rest) blocks 0 (state_of l 0 bits) ≡ run_from edition rest (plus blocks (count_read (read_of w))) 0 (nothing_waits (offered l (read_of w)))
  feeds [] bits rest blocks l size h places m few = absurd (omega arith)
  feeds (x ∷ xs) bits rest blocks l size h places m few =
      fills rest blocks l x xs [] bits 0 refl (omega arith) (omega arith) h
      ∙ ap (on_from rest blocks (x ∷ xs)) (held_judged edition l (read_of (x ∷ xs)) m ∙ held l (read_of (x ∷ xs)) few)
