-- `feed_all` meets its contract. The loop's invariant: what is left from here, with what is fed, counted and held, gives the whole
-- run. The bits passed over are not counted: they make up the balance.
-- Assumes nothing.
use mathlib.Core.Bool.{true}
use mathlib.Core.Path.{◌≡◌}
use Prim.Native.Nat.{ℕ, ◌+◌, ◌≤◌, ◌<◌}
use lib.ListN.{length, drop}
use Rattle.locking.specs.declared.Lock.{Lock}
use Rattle.locking.specs.Locks.{lock_proper}
use Rattle.locking.specs.Modes.{no_blocks}
use Rattle.receiver.specs.declared.State.{State}
use Rattle.receiver.specs.declared.windows.Window.{Window}
use Rattle.receiver.specs.States.{state_of}
use Rattle.receiver.proofs.Balance.{MadeUp}
use Rattle.receiver.proofs.Numbers.{places_of}
use Rattle.receiver.proofs.Running.{going_on}
use Rattle.receiver.proofs.feed_all.Given as goal

-- a lock and a window are a state
abbrev held : Lock → Window → State
held l w = state_of l w.waiting (places_of w.waiting w.bits)

abbrev pub invariant-loop-i : goal.invariant-loop-i
invariant-loop-i l =
    record {
      room : l.window.waiting < 50;
      proper : lock_proper l.edition l.lock ≡ true;
      limit : l.waited + length l.bits ≤ 65585;
      on :
          (passed : ℕ) × MadeUp (l.waited + l.i) l.blocks passed l.window.waiting
          × (going_on l.edition l.until (drop l.i l.bits) l.i l.blocks passed (held l.lock l.window) ≡ going_on l.edition l.until l.bits 0 no_blocks 0 (held l.initial.lock l.initial.window));
    }
