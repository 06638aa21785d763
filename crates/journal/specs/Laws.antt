-- What holds of journals (02, No. 12).
-- Assumes nothing.
use Rattle.std.specs.Prelude.{List, ◌++◌, ◌≡◌, ℕ, ◌*◌, ◌-◌, ◌<◌, ◌≤◌, length, get_or, take, drop, Ok}
use Rattle.block.specs.Bits.{zeros}
use Rattle.journal.specs.Entries.{entries_of, pair_bytes, bytes_of}
use Rattle.journal.specs.Order.{InOrder, verdict_from, sound_from}
use Rattle.journal.specs.Trailer.{says_of}
use Rattle.journal.specs.Compaction.{journal_length, compact_of, compacted_of}
use Rattle.journal.specs.Salvage.{whole_entries, kept_of}
use Rattle.journal.specs.declared.Entry.{Entry}

-- each byte has eight bits
abbrev pub Bytes : List ℕ → Type 0
Bytes s = (i : ℕ) → get_or s i 0 < 256

-- ---- order

-- entries get through exactly where they are in order
pub record SoundInOrder (es : List Entry) : Type 0 where
  pub then : verdict_from 0 es ≡ Ok tt → InOrder es
  pub only : InOrder es → verdict_from 0 es ≡ Ok tt

abbrev pub SoundMeansInOrder : Type 0
SoundMeansInOrder = (es : List Entry) → SoundInOrder es

-- so what a journal says is in order
abbrev pub SaysInOrder : Type 0
SaysInOrder = (s : List ℕ) (es : List Entry) → says_of s ≡ Ok es → InOrder es

-- ---- compaction

-- What is left of a journal of these bytes that says these entries: cut at the new length, it is their bytes and a trailer with offset 0, so
-- it says the same and nothing else; behind it are zeros. Compacted again, it does not change any more.
pub record Compacts (s : List ℕ) (es : List Entry) : Type 0 where
  pub told : compact_of s ≡ Ok (journal_length es)
  pub size : length (compacted_of s) ≡ length s
  pub inside : journal_length es ≤ length s
  pub only : take (journal_length es) (compacted_of s) ≡ bytes_of es ++ pair_bytes 0 (length es)
  pub cleared : drop (journal_length es) (compacted_of s) ≡ zeros (length s - journal_length es)
  pub says : says_of (take (journal_length es) (compacted_of s)) ≡ Ok es
  pub again : compact_of (take (journal_length es) (compacted_of s)) ≡ Ok (journal_length es)
  pub stays : compacted_of (take (journal_length es) (compacted_of s)) ≡ take (journal_length es) (compacted_of s)

abbrev pub WantedKept : Type 0
WantedKept = (s : List ℕ) → Bytes s → (es : List Entry) → says_of s ≡ Ok es → Compacts s es

-- ---- salvage

-- The run that is kept is in order and whole, and every longer one has a bad entry.
pub record Longest (s : List ℕ) (n : ℕ) : Type 0 where
  pub bytes : kept_of s ≡ 16 * n
  pub inside : kept_of s ≤ length s
  pub sound : InOrder (entries_of n s)
  pub longer : (m : ℕ) → n < m → 16 * m ≤ length s → InOrder (entries_of m s) → ⊥

abbrev pub LongestRunKept : Type 0
LongestRunKept = (s : List ℕ) → Longest s (sound_from 0 (whole_entries s))
