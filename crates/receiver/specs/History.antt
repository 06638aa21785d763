-- What was fed, looked back on: the bits that runs feed, the state after a history of bits, and what in the history a lock, a
-- held and a confirmed time come from (01, "Hunting, trying, locked").
-- Assumes nothing.
use Rattle.block.specs.declared.Refused.{Refused}
use Rattle.block.specs.declared.Body.{Body}
use Rattle.std.specs.Prelude.{ℕ, ◌+◌, ◌-◌, ◌*◌, ◌≤◌, ◌<◌, ◌≡◌, true, cond, List, [], ◌∷◌, ◌++◌, ltb, length, take, drop, Result, Ok}
use Rattle.block.specs.Read.{read_of}
use Rattle.record.specs.declared.Edition.{Edition}
use Rattle.record.specs.declared.Record.{Record}
use Rattle.timekeeping.specs.Times.{no_time, usable_in, follows}
use Rattle.locking.specs.Locks.{locked, lock_of}
use Rattle.locking.specs.Modes.{is_good, judged_by}
use Rattle.receiver.specs.declared.State.{State}
use Rattle.receiver.specs.States.{lock_in, nothing_waits, fresh_of}
use Rattle.receiver.specs.Steps.{step_of}
use Rattle.receiver.specs.Runs.{run_of}

-- the bits before the first that is neither 0 nor 1
unfoldable pub bits_before : List ℕ → List ℕ
bits_before [] = []
bits_before (b ∷ bs) = cond (ltb b 2) (b ∷ bits_before bs) []

-- the bits that a run feeds to a proper state: none where it is longer than 65,536
unfoldable pub bits_fed : List ℕ → List ℕ
bits_fed bs = cond (ltb 65536 (length bs)) [] (bits_before bs)

-- runs one after the other, whatever each is refused with: the state after them, and the history that they fed
unfoldable pub ran_all : Edition → State → List (List ℕ) → State
ran_all edition s [] = s
ran_all edition s (bs ∷ runs) = ran_all edition (run_of edition s bs).state runs

unfoldable pub fed_all : List (List ℕ) → List ℕ
fed_all [] = []
fed_all (bs ∷ runs) = bits_fed bs ++ fed_all runs

-- the state after a history of any length, one bit after the other
unfoldable pub after_from : Edition → State → List ℕ → State
after_from edition s [] = s
after_from edition s (b ∷ bs) = after_from edition (step_of edition s b).next bs

abbrev pub after : Edition → List ℕ → State
after edition history = after_from edition fresh_of history

-- the state after the first n bits of a history
abbrev pub after_first : Edition → ℕ → List ℕ → State
after_first edition n history = after edition (take n history)

-- the fifty bits that end after the first n
abbrev pub window_to : ℕ → List ℕ → List ℕ
window_to n history = take 50 (drop (n - 50) history)

-- ---- blocks in a history

-- fifty bits end after the first n, and reading them gives what is asked
pub record BlockTo (asked : Result Body Refused → Type 0) (history : List ℕ) (n : ℕ) : Type 0 where
  pub from : 50 ≤ n
  pub to : n ≤ length history
  pub reads : asked (read_of (window_to n history))

-- a good block
abbrev pub GoodBlock : List ℕ → ℕ → Type 0
GoodBlock history n = BlockTo (λ w. is_good w ≡ true) history n

-- a usable time block with the record r
abbrev pub TimeBlock : Edition → List ℕ → ℕ → Record → Type 0
TimeBlock edition history n r = BlockTo (λ w. usable_in edition w ≡ Ok r) history n

-- the block that ends after the first n bits was judged in its place: the lock after it is what its window makes of the lock
-- before it, and all fifty bits are used up
abbrev pub JudgedInPlace : Edition → List ℕ → ℕ → Type 0
JudgedInPlace edition history n =
    after_first edition n history ≡ nothing_waits (judged_by edition (lock_in (after_first edition (n - 50) history)) (read_of (window_to n history))).lock

-- ---- the lock

-- locked after the first n bits and after every bit since
abbrev pub LockedSince : Edition → List ℕ → ℕ → Type 0
LockedSince edition history n = (m : ℕ) → n ≤ m → m ≤ length history → (after_first edition m history).mode ≡ locked

-- an earned lock: three good blocks one after the other, the last ending after n bits. Lock came with the last of these bits,
-- with no run of bad blocks and no time, and was not lost since. The history goes on with whole blocks, each judged in its
-- place, and then with the bits that wait, which left the lock as it was
pub record EarnedLock (edition : Edition) (history : List ℕ) (s : State) : Type 0 where
  pub n : ℕ
  pub first : GoodBlock history (n - 100)
  pub second : GoodBlock history (n - 50)
  pub third : GoodBlock history n
  pub before : (after_first edition (n - 1) history).mode ≡ locked → ⊥
  pub came : after_first edition n history ≡ nothing_waits (lock_of locked 0 0 no_time)
  pub unbroken : LockedSince edition history n
  pub blocks : ℕ
  pub judged : (k : ℕ) → 0 < k → k ≤ blocks → JudgedInPlace edition history (n + 50 * k)
  pub whole : length history ≡ n + 50 * blocks + s.waiting
  pub room : s.waiting < 50
  pub kept : lock_in s ≡ lock_in (after_first edition (n + 50 * blocks) history)

-- ---- the time

-- the record that s holds is that of the block that ended after n bits, and its age is the number of whole blocks since
pub record HeldFrom (edition : Edition) (history : List ℕ) (s : State) (n : ℕ) : Type 0 where
  pub block : TimeBlock edition history n s.held
  pub aged : length history ≡ n + 50 * s.age + s.waiting
  pub room : s.waiting < 50

-- a held time: the block of its record ended after n bits; lock was there when that block began, and was not lost since
pub record Held (edition : Edition) (history : List ℕ) (s : State) : Type 0 where
  pub n : ℕ
  pub from : HeldFrom edition history s n
  pub unbroken : LockedSince edition history (n - 50)

-- an earned time: for one to four minutes, a usable time block ended after n bits, and the block of the held record as many times
-- 1,500 bits later; the held record is that many minutes after the earlier one, the offset aside; and lock was there when the
-- earlier block began, and was not lost since (02, No. 5)
pub record Earned (edition : Edition) (history : List ℕ) (s : State) : Type 0 where
  pub n : ℕ
  pub minutes : ℕ
  pub from_one : 1 ≤ minutes
  pub to_four : minutes ≤ 4
  pub earlier : Record
  pub block : TimeBlock edition history n earlier
  pub from : HeldFrom edition history s (n + 1500 * minutes)
  pub later : follows edition minutes earlier s.held ≡ true
  pub unbroken : LockedSince edition history (n - 50)
