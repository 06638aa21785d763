-- What holds of the journal that is logged (02, No. 12).
-- Assumes nothing.
use Rattle.std.specs.Prelude.{Ok, ◌≡◌, ℕ, ◌^◌, ◌<◌, List, ◌++◌, length}
use Rattle.block.specs.Bits.{Bits}
use Rattle.journal.specs.Entries.{pair_bytes, bytes_of}
use Rattle.journal.specs.Trailer.{says_of}
use Rattle.log_blocks.specs.Log.{fresh_kept, kept_after, logged_of}

-- the journal of fewer than 2^64 bits, the bytes of what they log and a trailer with the blocks counted, is never refused and says
-- exactly what they log
abbrev pub WrittenSays : Type 0
WrittenSays =
    (bits : List ℕ) → Bits bits → length bits < 2 ^ 64
    → says_of (bytes_of (logged_of fresh_kept bits) ++ pair_bytes 0 (kept_after fresh_kept bits).blocks) ≡ Ok (logged_of fresh_kept bits)
