-- The receiver's state, and when it is proper (01, "Hunting, trying, locked"). It does not know its edition, and is judged by that of
-- the call (02, No. 3).
-- Assumes nothing.
use Rattle.std.specs.Prelude.{ℕ, zero, suc, Bool, true, ◌&&◌, List, [], ◌∷◌, eqb, ltb}
use Rattle.block.specs.Bits.{zeros}
use Rattle.record.specs.declared.Edition.{Edition}
use Rattle.timekeeping.specs.Times.{time_of}
use Rattle.locking.specs.declared.Lock.{Lock}
use Rattle.locking.specs.Locks.{lock_of, fresh_lock, lock_proper}
use Rattle.receiver.specs.declared.State.{State}

-- a state: its lock, how many bits wait, and the places for them, the oldest first
abbrev pub state_of : Lock → ℕ → List ℕ → State
state_of l waiting bits =
    record {
      mode = l.mode;
      good = l.good;
      bad = l.bad;
      waiting = waiting;
      bits = bits;
      time = l.time.kind;
      held = l.time.held;
      age = l.time.age;
    }

-- the lock of a state
abbrev pub lock_in : State → Lock
lock_in s = lock_of s.mode s.good s.bad (time_of s.time s.held s.age)

-- a state in which nothing waits
abbrev pub nothing_waits : Lock → State
nothing_waits l = state_of l 0 (zeros 50)

-- a fresh state: hunting, nothing waiting, no time
unfoldable pub fresh_of : State
fresh_of = nothing_waits fresh_lock

-- ---- proper

-- the first n places hold bits, and those from there on are not in use
unfoldable pub bits_proper : ℕ → List ℕ → Bool
bits_proper n [] = true
bits_proper zero (b ∷ bs) = eqb b 0 && bits_proper zero bs
bits_proper (suc n) (b ∷ bs) = ltb b 2 && bits_proper n bs

-- 0 to 49 bits wait, each 0 or 1
unfoldable pub proper_of : Edition → State → Bool
proper_of edition s = ltb s.waiting 50 && (bits_proper s.waiting s.bits && lock_proper edition (lock_in s))
