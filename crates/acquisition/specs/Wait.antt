-- How long a receiver waits for lock in a run of undamaged blocks (02, No. 13).
-- Assumes nothing.
use Rattle.std.specs.Prelude.{ℕ, ◌+◌, ◌-◌, ◌%◌, ◌≤◌, ◌<◌, true, List, ◌↔◌, ◌≡◌, length, take}
use Rattle.detection.specs.Slips.{Message}
use Rattle.record.specs.declared.Edition.{Edition}
use Rattle.timekeeping.specs.Times.{none, no_time}
use Rattle.locking.specs.Locks.{hunting, trying, locked, lock_of}
use Rattle.receiver.specs.declared.State.{State}
use Rattle.receiver.specs.declared.Until.TheVariants.{LockChange}
use Rattle.receiver.specs.States.{nothing_waits, fresh_of, proper_of}
use Rattle.receiver.specs.History.{after_from, after_first}
use Rattle.receiver.specs.Changes.{up_to}
use Rattle.acquisition.specs.Heard.{heard_from, bits_before_block, OnlyBlocks, OnlyBlocksFar}

-- so many bits after the start of a block, locked and in step: what waits is what came since the last start
pub record InStep (n : ℕ) (s : State) : Type 0 where
  pub is_locked : s.mode ≡ locked
  pub in_step : s.waiting ≡ n % 50

-- lock has come with the last bit: nothing waits, and there is no time
abbrev pub just_locked : State
just_locked = nothing_waits (lock_of locked 0 0 no_time)

-- A fresh receiver takes as blocks the fifty bits behind so many, the next fifty, and so on: it hunts up to the last bit of the first
-- and tries up to that of the third; with that bit it is locked, and from then on in step
pub record Acquires (edition : Edition) (heard : List ℕ) (before : ℕ) : Type 0 where
  pub hunts : (n : ℕ) → n < before + 50 → n ≤ length heard → (after_first edition n heard).mode ≡ hunting
  pub tries : (n : ℕ) → before + 50 ≤ n → n < before + 150 → n ≤ length heard → (after_first edition n heard).mode ≡ trying
  pub locks : before + 150 ≤ length heard → after_first edition (before + 150) heard ≡ just_locked
  pub stays : (n : ℕ) → before + 150 ≤ n → n ≤ length heard → InStep (n - before) (after_first edition n heard)

-- ---- from a fresh state

-- with which bit lock comes, where some bits of the first block are left out: the last of the third whole block
abbrev pub wait : ℕ → ℕ
wait left = bits_before_block left + 150

-- it is 150 to 199 bits, and each of these numbers for some number of bits left out
pub record WaitBounds : Type 0 where
  pub least : (left : ℕ) → left < 50 → 150 ≤ wait left
  pub most : (left : ℕ) → left < 50 → wait left ≤ 199
  pub each : (n : ℕ) → 150 ≤ n → n ≤ 199 → (left : ℕ) × (left < 50) × (wait left ≡ n)

-- the promise: under the request's condition lock comes with that bit and not before
abbrev pub Promise : Type 0
Promise = (edition : Edition) (messages : List Message) (left : ℕ) → left < 50 → OnlyBlocks left messages → Acquires edition (heard_from left messages) (bits_before_block left)

-- It does so with less to believe, and not with any less: exactly where no far window is good that starts in what is heard of the first
-- block. Where no bit is left out, or more than 43, there is none
abbrev pub FarPromise : Type 0
FarPromise =
    (edition : Edition) (messages : List Message) (left : ℕ) → left < 50
    → OnlyBlocksFar left (left + bits_before_block left) messages ↔ Acquires edition (heard_from left messages) (bits_before_block left)

-- so a run that ends where lock comes or goes ends with that bit, which is the one that `receive` tells
abbrev pub FirstChange : Type 0
FirstChange =
    (edition : Edition) (messages : List Message) (left : ℕ) → left < 50 → OnlyBlocksFar left (left + bits_before_block left) messages
    → wait left ≤ length (heard_from left messages) → up_to edition LockChange fresh_of (heard_from left messages) ≡ take (wait left) (heard_from left messages)

-- ---- from any state

-- Whatever state a receiver is in, locked in another place or trying one, with whatever bits waiting: after 441 bits of such a run it
-- is in step
abbrev pub AnyPromise : Type 0
AnyPromise =
    (edition : Edition) (messages : List Message) (left : ℕ) (s : State) → left < 50 → OnlyBlocksFar left (left + 300) messages
    → length s.bits ≡ 50 → proper_of edition s ≡ true
    → (n : ℕ) → 441 ≤ n → n ≤ length (heard_from left messages) → InStep (left + n) (after_from edition s (take n (heard_from left messages)))

-- ---- without lock

-- at no bit of a history in which lock never came is a time held
abbrev pub NoLockNoTime : Type 0
NoLockNoTime =
    (edition : Edition) (history : List ℕ) → ((n : ℕ) → n ≤ length history → (after_first edition n history).mode ≡ locked → ⊥)
    → (n : ℕ) → n ≤ length history → (after_first edition n history).time ≡ none
