-- What is kept from one piece of the input to the next, and what is told about lock (01, "The receiver program").
-- Assumes nothing.
use Rattle.std.specs.Prelude.{◌≡◌, ℕ, ◌+◌, ◌%◌, ◌^◌, cond, List, [], ◌∷◌, length, ◌==◌, Option, None, Some}
use Rattle.block.specs.Bits.{Bits}
use Rattle.record.specs.declared.Edition.{Edition}
use Rattle.record.specs.declared.Edition.TheVariants.{Of1984}
use Rattle.locking.specs.Locks.{locked}
use Rattle.receiver.specs.declared.Until.TheVariants.{LockChange}
use Rattle.receiver.specs.Steps.{Step, step_of}
use Rattle.receiver.specs.Packed.{packed, unpacked, fresh_packed}
use Rattle.receiver.specs.Changes.{same_lock, up_to}
use Rattle.receive.specs.declared.totals.Heard.{Heard}
use Rattle.receive.specs.declared.totals.Kept.{Kept}
use Rattle.receive.specs.declared.totals.Said.{Said}
use Rattle.receive.specs.declared.totals.Said.TheVariants.{Came, Went}

-- the edition that records are read by; nothing that is told depends on a record, so either would do (02, No. 3)
abbrev pub edition : Edition
edition = Of1984

-- the totals start anew at 2^64
abbrev pub total : ℕ → ℕ → ℕ
total a b = (a + b) % 2 ^ 64

-- before any bit
abbrev pub fresh_kept : Kept
fresh_kept = record { fed = 0; good = 0; bad = 0; passed = 0; state = fresh_packed }

-- after one bit more: it is a step of the fifty places, and what it counts comes to the totals
unfoldable pub kept_next : Kept → ℕ → Kept
kept_next k b =
    let t : Step = step_of edition (unpacked k.state) b in
    record {
      fed = total k.fed 1;
      good = total k.good t.blocks.good;
      bad = total k.bad t.blocks.bad;
      passed = total k.passed t.passed;
      state = packed t.next;
    }

-- the bits one after the other, however many they are
unfoldable pub kept_after : Kept → List ℕ → Kept
kept_after k [] = k
kept_after k (b ∷ bs) = kept_after (kept_next k b) bs

-- with bit n, by the modes before and after it: that lock came, that it went, or nothing
unfoldable pub said_at : ℕ → ℕ → ℕ → Option Said
said_at before after n = cond (same_lock before after) None (cond (after == locked) (Some (Came n)) (Some (Went n)))

-- the first that there is to say of these bits: it is of the first bit with which lock comes or goes
unfoldable pub said_of : Kept → List ℕ → Option Said
said_of k [] = None
said_of k (b ∷ bs) =
    let t : Kept = kept_next k b in
    cond (same_lock k.state.mode t.state.mode) (said_of t bs) (said_at k.state.mode t.state.mode t.fed)

-- the bits up to that one are heard, or all
unfoldable pub heard_of : Kept → List ℕ → Heard
heard_of k bits =
    let part : List ℕ = up_to edition LockChange (unpacked k.state) bits in
    record { kept = kept_after k part; fed = length part; said = said_of k bits }

-- from one to the other some bits were fed: no contract can say which are read
pub record FedOn (start after : Kept) : Type 0 where
  pub history : List ℕ
  pub bits : Bits history
  pub fed : after ≡ kept_after start history
