-- Salvage of a journal without a trailer (02, No. 12): the bytes in the longest leading run of whole entries in order, and the bytes after it.
-- Assumes nothing.
use Rattle.std.specs.Prelude.{List, ℕ, ◌*◌, ◌-◌, ◌/◌, length}
use Rattle.journal.specs.Entries.{entries_of}
use Rattle.journal.specs.Order.{sound_from}
use Rattle.journal.specs.declared.Entry.{Entry}
use Rattle.journal.specs.declared.Salvaged.{Salvaged}

-- the whole entries that some bytes hold
abbrev pub whole_entries : List ℕ → List Entry
whole_entries s = entries_of (length s / 16) s

unfoldable pub kept_of : List ℕ → ℕ
kept_of s = 16 * sound_from 0 (whole_entries s)

unfoldable pub salvaged_of : List ℕ → Salvaged
salvaged_of s = record { kept = kept_of s; rest = length s - kept_of s }
