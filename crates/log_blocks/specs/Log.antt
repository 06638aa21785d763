-- The journal of the blocks that a receiver uses up, good and bad, each with the number of its last bit (02, No. 12).
-- Assumes nothing.
use Rattle.std.specs.Prelude.{◌≡◌, ℕ, ◌+◌, ◌%◌, ◌^◌, cond, List, [], ◌∷◌, nat_lt, Option, None, Some}
use Rattle.journal.specs.declared.Entry.{Entry}
use Rattle.record.specs.declared.Edition.{Edition}
use Rattle.record.specs.declared.Edition.TheVariants.{Of1984}
use Rattle.receiver.specs.Packed.{fed_packed, fresh_packed}
use Rattle.receiver.specs.declared.PackedState.{PackedState}
use Rattle.receiver.specs.declared.Ran.{Ran}
use Rattle.log_blocks.specs.declared.log.Heard.{Heard}
use Rattle.log_blocks.specs.declared.log.Kept.{Kept}

-- the edition that records are read by; nothing that is logged depends on a record, so either would do (02, No. 3)
abbrev pub edition : Edition
edition = Of1984

-- the totals start anew at 2^64
abbrev pub total : ℕ → ℕ → ℕ
total a b = (a + b) % 2 ^ 64

-- before any bit
abbrev pub fresh_kept : Kept
fresh_kept = record { fed = 0; blocks = 0; state = fresh_packed }

-- how many blocks a fed bit uses up
abbrev pub used_in : Ran PackedState → ℕ
used_in ran = ran.counts.good + ran.counts.bad

-- after one bit more, and where it used a block up, the number of the waiting bits from place 49 down, with the bit in place 0: it is
-- the fiftieth then, and the number the block's
unfoldable pub heard_of : Kept → ℕ → Heard
heard_of k b =
    let ran : Ran PackedState = fed_packed edition k.state b in
    record {
      kept = record { fed = total k.fed 1; blocks = total k.blocks (used_in ran); state = ran.state };
      block = cond (nat_lt 0 (used_in ran)) (Some (total k.state.bits b)) None;
    }

-- the bits one after the other, however many they are
unfoldable pub kept_after : Kept → List ℕ → Kept
kept_after k [] = k
kept_after k (b ∷ bs) = kept_after (heard_of k b).kept bs

-- the entry of a block that the bit of this number used up, before those that come after it
abbrev pub with_entry : ℕ → Option ℕ → List Entry → List Entry
with_entry bit (Some block) es = record { bit = bit; block = block } ∷ es
with_entry bit None es = es

-- the entries that they log
unfoldable pub logged_of : Kept → List ℕ → List Entry
logged_of k [] = []
logged_of k (b ∷ bs) =
    let heard : Heard = heard_of k b in
    with_entry heard.kept.fed heard.block (logged_of heard.kept bs)

-- from one to the other some bits were fed: no contract can say which are read
pub record FedOn (start after : Kept) : Type 0 where
  pub history : List ℕ
  pub fed : after ≡ kept_after start history
