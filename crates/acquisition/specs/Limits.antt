-- Where the promise ends, shown by one witness each: the condition matters, for lock may come late or in a wrong place; and no fewer
-- than 441 bits would do for every state.
-- Assumes nothing.
use Rattle.std.specs.Prelude.{ℕ, ◌+◌, ◌-◌, ◌%◌, ◌≤◌, ◌<◌, true, List, ◌≡◌, length, replicate, take}
use Rattle.block.specs.Read.{read_of}
use Rattle.detection.specs.Slips.{Message, sent, window}
use Rattle.record.specs.declared.Edition.{Edition}
use Rattle.locking.specs.Locks.{locked}
use Rattle.locking.specs.Modes.{is_good}
use Rattle.receiver.specs.declared.State.{State}
use Rattle.receiver.specs.States.{proper_of}
use Rattle.receiver.specs.History.{after_from, after_first}
use Rattle.acquisition.specs.Heard.{heard_from, OnlyBlocksFar}
use Rattle.acquisition.specs.Wait.{Acquires, wait}

-- a run in which one window is good that is no block: lock comes, but a hundred bits late
pub record LateLock : Type 0 where
  pub messages : List Message
  pub left : ℕ
  pub inside : left < 50
  pub start : ℕ
  pub heard : left ≤ start
  pub no_start : start % 50 ≡ 0 → ⊥
  pub taken_as_good : is_good (read_of (window (sent messages) start)) ≡ true
  pub not_yet : (edition : Edition) (n : ℕ) → n < wait left + 100 → (after_first edition n (heard_from left messages)).mode ≡ locked → ⊥
  pub comes : (edition : Edition) → (after_first edition (wait left + 100) (heard_from left messages)).mode ≡ locked

-- a message that need only be repeated: from the places up to so many bits behind a start on, lock comes early, in a wrong place, and
-- stays there for as long as the message is repeated
pub record WrongLock : Type 0 where
  pub message : Message
  pub slip : ℕ
  pub inside : (1 ≤ slip) × (slip < 50)
  pub wrong : (edition : Edition) (times left : ℕ) → 1 ≤ left → left ≤ slip → Acquires edition (heard_from left (replicate times message)) (slip - left)

-- a proper state and a run that meets the condition, in which there is no lock after 440 bits
pub record LongestWait : Type 0 where
  pub messages : List Message
  pub left : ℕ
  pub inside : left < 50
  pub far : OnlyBlocksFar left (left + 300) messages
  pub state : State
  pub places : length state.bits ≡ 50
  pub proper : (edition : Edition) → proper_of edition state ≡ true
  pub not_yet : (edition : Edition) → (after_from edition state (take 440 (heard_from left messages))).mode ≡ locked → ⊥
