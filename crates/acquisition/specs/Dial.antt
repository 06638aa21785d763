-- From lock to a dial that shows time, in a feed with a time block each minute, thirty blocks, that tells the next minute (02, No. 13).
-- Assumes nothing.
use Rattle.std.specs.Prelude.{ℕ, ◌+◌, ◌*◌, ◌≤◌, ◌<◌, true, ◌≡◌, length, take, drop, Ok}
use mathlib.Core.List.{List, ◌++◌, flatten}
use Rattle.block.specs.Read.{read_of}
use Rattle.detection.specs.Slips.{Message}
use Rattle.record.specs.declared.Edition.{Edition}
use Rattle.record.specs.declared.Record.{Record}
use Rattle.timekeeping.specs.Times.{confirmed, usable_in, follows}
use Rattle.receiver.specs.declared.State.{State}
use Rattle.receiver.specs.States.{fresh_of}
use Rattle.receiver.specs.History.{after_from}
use Rattle.journey.specs.Journey.{Other, Each, LockHolds, holding}
use Rattle.acquisition.specs.Heard.{heard_from, bits_before_block, OnlyBlocksFar}
use Rattle.acquisition.specs.Wait.{just_locked, wait}

-- A feed from lock on: fewer than thirty blocks before a time block, twenty-nine between it and the next, which tells one minute later,
-- and then anything. No other block of these is a usable time block, and they do not end the lock
pub record Feed (edition : Edition) : Type 0 where
  pub before : List (List ℕ)
  pub one : List ℕ
  pub between : List (List ℕ)
  pub two : List ℕ
  pub more : List ℕ
  pub told : Record
  pub next : Record
  pub few : length before < 30
  pub minute : length between ≡ 29
  pub one_tells : usable_in edition (read_of one) ≡ Ok told
  pub two_tells : usable_in edition (read_of two) ≡ Ok next
  pub later : follows edition 1 told next ≡ true
  pub others_before : Each (Other edition) before
  pub others_between : Each (Other edition) between
  pub holds_before : LockHolds 0 before
  pub holds_between : LockHolds 0 between

abbrev pub bits_of_feed : {edition : Edition} → Feed edition → List ℕ
bits_of_feed f = flatten f.before ++ (f.one ++ (flatten f.between ++ (f.two ++ f.more)))

-- how many bits after lock the second time block ends
abbrev pub confirmed_after : {edition : Edition} → Feed edition → ℕ
confirmed_after f = 50 * (length f.before + 31)

-- the time is confirmed with the last of the first n bits and not before: the receiver holds the record then, at age 0
pub record ConfirmedWith (edition : Edition) (s : State) (bits : List ℕ) (n : ℕ) (r : Record) : Type 0 where
  pub not_yet : (m : ℕ) → m < n → (after_from edition s (take m bits)).time ≡ confirmed → ⊥
  pub then : after_from edition s (take n bits) ≡ holding 0 confirmed r 0

-- every such feed does so, which is two minutes at most, and some feed takes all of them
abbrev pub EveryFeedShows : Type 0
EveryFeedShows =
    (edition : Edition) (f : Feed edition) → ConfirmedWith edition just_locked (bits_of_feed f) (confirmed_after f) f.next × (confirmed_after f ≤ 3000)

abbrev pub TwoMinutes : Type 0
TwoMinutes = (edition : Edition) → (f : Feed edition) × (confirmed_after f ≡ 3000)

-- From a fresh state, where the run goes on with such a feed behind the third whole block, and lock comes with that block: 3,199 bits at
-- most
abbrev pub Ladder : Type 0
Ladder =
    (edition : Edition) (messages : List Message) (left : ℕ) → left < 50 → OnlyBlocksFar left (left + bits_before_block left) messages
    → (f : Feed edition) → wait left ≤ length (heard_from left messages) → drop (wait left) (heard_from left messages) ≡ bits_of_feed f
    → ConfirmedWith edition fresh_of (heard_from left messages) (wait left + confirmed_after f) f.next × (wait left + confirmed_after f ≤ 3199)

-- and some run takes all of these
pub record LongestLadder (edition : Edition) : Type 0 where
  pub messages : List Message
  pub left : ℕ
  pub inside : left < 50
  pub far : OnlyBlocksFar left (left + bits_before_block left) messages
  pub feed : Feed edition
  pub long : wait left ≤ length (heard_from left messages)
  pub goes_on : drop (wait left) (heard_from left messages) ≡ bits_of_feed feed
  pub all : wait left + confirmed_after feed ≡ 3199
