-- How the time stands, by the whole history of the bits fed since the fresh watch (02, No. 11). Nothing here knows what a watch remembers.
-- Assumes nothing.
use Rattle.std.specs.Prelude.{ℕ, zero, suc, ◌+◌, ◌-◌, ◌≤◌, ◌<◌, ◌^◌, Bool, true, false, cond, ◌&&◌, List, [], ◌∷◌, ◌++◌, ◌≡◌, eqb, leb, ltb, length, Ok}
use Rattle.record.specs.declared.Edition.{Edition}
use Rattle.locking.specs.Locks.{locked}
use Rattle.receiver.specs.declared.State.{State}
use Rattle.receiver.specs.History.{bits_before, after, after_first}
use Rattle.receiver.specs.Packed.{unpacked}
use Rattle.watch.specs.declared.Standing.{Standing}
use Rattle.watch.specs.declared.Watch.{Watch}
use Rattle.watch.specs.Watches.{fresh_watch, is_held, lets_go, loses_lock, watched_of}
use Rattle.watch.specs.Standing.{standing_with, why_of}

-- the last number from 1 to n that passes a test, or 0
unfoldable pub lastly : (ℕ → Bool) → ℕ → ℕ
lastly test zero = 0
lastly test (suc n) = cond (test (suc n)) (suc n) (lastly test n)

-- ---- what happens with a bit, by the states before and after it

-- lock is lost: it was locked, and is not
abbrev pub lost_lock : State → State → Bool
lost_lock before after = loses_lock before.mode after.mode

-- time is dropped: a record was held, and none is, while it is locked
abbrev pub dropped_time : State → State → Bool
dropped_time before after = eqb after.mode locked && lets_go before.time after.time

-- a block made a record that is held: its age is 0, and nothing waits
abbrev pub made_record : State → State → Bool
made_record before after = is_held after.time && (eqb after.age 0 && eqb after.waiting 0)

-- ---- the history

module _ (edition : Edition) (history : List ℕ) where
  -- the last n such that it happens between the states after n - 1 and after n bits
  abbrev pub last_with : (State → State → Bool) → ℕ
  last_with happens = lastly (λ n. happens (after_first edition (n - 1) history) (after_first edition n history)) (length history)

  abbrev pub last_loss : ℕ
  last_loss = last_with lost_lock

  -- the last drop, if it came since the present lock, so behind the last loss
  abbrev pub drop_since_lock : ℕ
  drop_since_lock = cond (ltb last_loss (last_with dropped_time)) (last_with dropped_time) 0

  -- the block of the record made last, if a record was held before it
  abbrev pub displacement : ℕ
  displacement = cond (is_held (after_first edition (last_with made_record - 1) history).time) (last_with made_record) 0

  -- so the time stands after these bits
  abbrev pub standing_after : Standing
  standing_after = standing_with (after edition history).mode (after edition history).time last_loss drop_since_lock displacement

-- ---- a watch shows its history

-- the bits that a run feeds to a proper watch which was fed so many: none where it is refused with 9
unfoldable pub bits_watched : ℕ → List ℕ → List ℕ
bits_watched fed bs = cond (ltb 65536 (length bs)) [] (cond (leb (2 ^ 64) (fed + length bs)) [] (bits_before bs))

-- runs one after the other, whatever each is refused with: the watch after them, and the history that they fed
unfoldable pub watched_all : Edition → Watch → List (List ℕ) → Watch
watched_all edition w [] = w
watched_all edition w (bs ∷ runs) = watched_all edition (watched_of edition w bs).state runs

unfoldable pub history_of : List ℕ → List (List ℕ) → List ℕ
history_of history [] = history
history_of history (bs ∷ runs) = history_of (history ++ bits_watched (length history) bs) runs

-- after any runs into a fresh watch, refused ones among them, why is the standing of the bits that they fed
abbrev pub ShowsHistory : Type 0
ShowsHistory =
    (edition : Edition) (runs : List (List ℕ)) → why_of edition (watched_all edition fresh_watch runs) ≡ Ok (standing_after edition (history_of [] runs))

-- and its receiver is in the state after them
abbrev pub ShowsState : Type 0
ShowsState =
    (edition : Edition) (runs : List (List ℕ)) → unpacked (watched_all edition fresh_watch runs).state ≡ after edition (history_of [] runs)

-- ---- the last

-- n is the last number up to a bound that passes a test, or 0 where none does
pub record IsLast (test : ℕ → Bool) (bound n : ℕ) : Type 0 where
  pub within : n ≤ bound
  pub passes : 0 < n → test n ≡ true
  pub none_later : (m : ℕ) → n < m → m ≤ bound → test m ≡ false

abbrev pub Lastly : Type 0
Lastly = (test : ℕ → Bool) (bound : ℕ) → IsLast test bound (lastly test bound)
