-- One statement over the crates, for both editions: a date is written as a record, the record as a word, the word as a block, and the block is fed
-- bit by bit to a locked receiver, which holds the record; one to four minutes later the block of that minute is confirmed,
-- whatever was missed in between while lock held, and the date is that many minutes later (01, "The calendar" and "Hunting, trying,
-- locked"; 02, No. 2, No. 3 and No. 5).
-- Assumes nothing.
use Rattle.std.specs.Prelude.{ℕ, ◌+◌, ◌*◌, ◌≤◌, ◌<◌, ◌≡◌, true, false, length, Result, Ok, Err, is_ok}
use mathlib.Core.List.{List, [], ◌∷◌, ◌++◌, flatten}
use Rattle.block.specs.Bits.{Bits, xors}
use Rattle.block.specs.Block.{Good, block_of}
use Rattle.block.specs.Read.{read_of}
use Rattle.block.specs.declared.Body.{Body}
use Rattle.block.specs.declared.Refused.{Refused}
use Rattle.detection.specs.Damage.{Pattern, Damage}
use Rattle.record.specs.declared.Edition.{Edition}
use Rattle.record.specs.declared.Record.{Record}
use Rattle.record.specs.Fields.{word_of}
use Rattle.record.specs.Words.{written_of}
use Rattle.calendar.specs.declared.Date.{Date}
use Rattle.calendar.specs.Years.{first_year_of_span, last_first_year, span}
use Rattle.calendar.specs.Dates.{date_of, coded_year, record_of}
use Rattle.calendar.specs.MinutesLater.{minutes_later, minutes_later_of_date}
use Rattle.timekeeping.specs.Times.{none, candidate, confirmed, time_of, no_time, usable_in}
use Rattle.locking.specs.declared.Blocks.{Blocks}
use Rattle.locking.specs.Locks.{locked, lock_of}
use Rattle.locking.specs.Modes.{is_good, blocks_of, no_blocks}
use Rattle.receiver.specs.declared.State.{State}
use Rattle.receiver.specs.States.{nothing_waits, proper_of}
use Rattle.receiver.specs.Runs.{plus, ended, run_of}

-- ---- what is sent

-- the time block of a record, fifty bits: code 0 and the record's word
abbrev pub time_block : Record → List ℕ
time_block r = block_of 0 (word_of r)

-- a block that is no usable time block, good or bad: no record is taken from it
pub record Other (edition : Edition) (w : List ℕ) : Type 0 where
  pub size : length w ≡ 50
  pub bits : Bits w
  pub unusable : is_ok (usable_in edition (read_of w)) ≡ false

-- what is asked holds of each of some blocks
abbrev pub Each : (List ℕ → Type 0) → List (List ℕ) → Type 0
Each P [] = Unit {0}
Each P (w ∷ ws) = P w × Each P ws

-- the run of bad blocks after one more block, and after some
abbrev pub bad_run : ℕ → Result Body Refused → ℕ
bad_run bad (Ok body) = 0
bad_run bad (Err why) = bad + 1

abbrev pub bad_run_after : ℕ → List (List ℕ) → ℕ
bad_run_after bad [] = bad
bad_run_after bad (w ∷ ws) = bad_run_after (bad_run bad (read_of w)) ws

-- lock holds over some blocks that come after a run of so many bad ones: no four bad ones stand in a row
abbrev pub LockHolds : ℕ → List (List ℕ) → Type 0
LockHolds bad [] = Unit {0}
LockHolds bad (w ∷ ws) = (bad_run bad (read_of w) < 4) × LockHolds (bad_run bad (read_of w)) ws

-- what blocks count, each by what it reads as
abbrev pub count_read : Result Body Refused → Blocks
count_read (Ok body) = blocks_of 1 0 0
count_read (Err why) = blocks_of 0 1 why.remainder

abbrev pub count_blocks : List (List ℕ) → Blocks
count_blocks [] = no_blocks
count_blocks (w ∷ ws) = plus (count_read (read_of w)) (count_blocks ws)

-- ---- missed minutes

-- the blocks of a minute before its time block: twenty-nine good ones, none of them a usable time block
pub record Quiet (edition : Edition) (ws : List (List ℕ)) : Type 0 where
  pub count : length ws ≡ 29
  pub others : Each (Other edition) ws
  pub good : Each (λ w. is_good (read_of w) ≡ true) ws

-- a missed minute: in the place of its time block stands something that is none, good or bad
pub record Missed (edition : Edition) : Type 0 where
  pub before : List (List ℕ)
  pub quiet : Quiet edition before
  pub block : List ℕ
  pub other : Other edition block

-- the blocks of missed minutes
abbrev pub heard : {edition : Edition} → List (Missed edition) → List (List ℕ)
heard [] = []
heard (m ∷ ms) = m.before ++ (m.block ∷ heard ms)

-- a block with any of the damage that demand 3 speaks of is missed under every edition, which demand 3 does not know of
abbrev pub DamagedIsOther : Type 0
DamagedIsOther = (edition : Edition) (s e : List ℕ) → Good s → Pattern e → Damage e → Other edition (xors s e)

-- ---- the receiver before and after

-- a locked receiver with nothing waiting and no time; whatever run of 0 to 3 bad blocks it has
pub record Idle (edition : Edition) (s : State) : Type 0 where
  pub places : length s.bits ≡ 50
  pub proper : proper_of edition s ≡ true
  pub is_locked : s.mode ≡ locked
  pub none_waits : s.waiting ≡ 0
  pub holds_none : s.time ≡ none

-- a locked receiver with nothing waiting and a run of so many bad blocks, that holds a record at an age in blocks, as a candidate or
-- confirmed
abbrev pub holding : ℕ → ℕ → Record → ℕ → State
holding bad kind r age = nothing_waits (lock_of locked 0 bad (time_of kind r age))

-- some blocks are one run, which counts every one of them and leads to this state
abbrev pub Leads : Edition → State → List (List ℕ) → State → Type 0
Leads edition s blocks t = run_of edition s (flatten blocks) ≡ ended 0 (count_blocks blocks) 0 t

-- ---- the statement

-- a date that can be written, with its record, and a first year whose 28 years hold its coded year
pub record Writable (edition : Edition) (d : Date) (r : Record) (first : ℕ) : Type 0 where
  pub is_recorded : record_of edition d ≡ Ok r
  pub from_first : first_year_of_span ≤ first
  pub to_last : first ≤ last_first_year
  pub begun : first ≤ coded_year d
  pub within : coded_year d < first + span

-- so many minutes after the record r of the date d, where n is the record then
pub record MinutesOn (edition : Edition) (d : Date) (r : Record) (first minutes : ℕ) (n : Record) : Type 0 where
  -- the record has a word
  pub has_word : written_of n ≡ Ok (word_of n)
  -- its block, thirty blocks a minute after that of r, leaves n confirmed at age 0, whatever the others were while lock held, and
  -- whether r was a candidate or confirmed
  pub confirms :
      (kind : ℕ) →
      candidate ≤ kind →
      kind ≤ confirmed →
      (others : List (List ℕ)) →
      length others + 1 ≡ 30 * minutes →
      Each (Other edition) others →
      LockHolds 0 others →
      Leads edition (holding 0 kind r 0) (others ++ time_block n ∷ []) (holding 0 confirmed n 0)
  -- so it does where all minutes before it were missed: they do not end the lock
  pub outlasts :
      (kind : ℕ) →
      candidate ≤ kind →
      kind ≤ confirmed →
      (missed : List (Missed edition)) →
      length missed + 1 ≡ minutes →
      (before : List (List ℕ)) →
      Quiet edition before →
      Leads edition (holding 0 kind r 0) ((heard missed ++ before) ++ time_block n ∷ []) (holding 0 confirmed n 0)
  -- the held record's date is as many minutes later, where the year coded then is still in the 28, which end with 2099 at the latest
  pub dates_on : coded_year (minutes_later_of_date minutes d) < first + span → date_of edition n first ≡ Ok (minutes_later_of_date minutes d)

pub record Journey (edition : Edition) (s : State) (d : Date) (r : Record) (first : ℕ) : Type 0 where
  -- the record has a word
  pub has_word : written_of r ≡ Ok (word_of r)
  -- the fifty bits of its block count one good block and leave the record as a candidate at age 0
  pub arrives : run_of edition s (time_block r) ≡ ended 0 (blocks_of 1 0 0) 0 (holding 0 candidate r 0)
  -- the held record dates back to the date
  pub dates_back : date_of edition r first ≡ Ok d
  -- as a candidate or confirmed it is held over up to 119 others, while lock holds
  pub lasts :
      (kind : ℕ) →
      candidate ≤ kind →
      kind ≤ confirmed →
      (others : List (List ℕ)) →
      length others < 120 →
      Each (Other edition) others →
      LockHolds 0 others →
      Leads edition (holding 0 kind r 0) others (holding (bad_run_after 0 others) kind r (length others))
  -- with the 120th it is gone
  pub ends :
      (kind : ℕ) →
      candidate ≤ kind →
      kind ≤ confirmed →
      (others : List (List ℕ)) →
      length others ≡ 120 →
      Each (Other edition) others →
      LockHolds 0 others →
      Leads edition (holding 0 kind r 0) others (nothing_waits (lock_of locked 0 (bad_run_after 0 others) no_time))
  -- and it goes on for one to four minutes: there is a record then
  pub goes_on : (minutes : ℕ) → 1 ≤ minutes → minutes ≤ 4 → (n : Record) × (minutes_later edition minutes r ≡ Ok n) × MinutesOn edition d r first minutes n

-- for either edition, every date that can be written, every first year that holds it, and every receiver that is locked and idle
abbrev pub EveryJourney : Type 0
EveryJourney = (edition : Edition) (s : State) (d : Date) (r : Record) (first : ℕ) → Idle edition s → Writable edition d r first → Journey edition s d r first
