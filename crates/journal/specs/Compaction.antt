-- Compaction (02, No. 12): the wanted entries come to the front in their order, the trailer behind them, and zeros. A refusal changes nothing.
-- Assumes nothing.
use Rattle.std.specs.Prelude.{List, ◌++◌, ℕ, ◌+◌, ◌*◌, ◌-◌, length, Result, Ok, Err}
use Rattle.refusal.specs.Numbers.{number_of}
use Rattle.refusal.specs.declared.Refusal.{Refusal}
use Rattle.block.specs.Bits.{zeros}
use Rattle.journal.specs.Entries.{pair_bytes, bytes_of}
use Rattle.journal.specs.Trailer.{says_of}
use Rattle.journal.specs.declared.Entry.{Entry}

-- how long a journal of some entries is, the trailer included
abbrev pub journal_length : List Entry → ℕ
journal_length es = 16 * length es + 16

-- a journal of these entries and no others, in so many bytes
unfoldable pub journal_of : List Entry → ℕ → List ℕ
journal_of es size = bytes_of es ++ (pair_bytes 0 (length es) ++ zeros (size - journal_length es))

-- the answer, and what the bytes hold then
abbrev pub compact_by : Result (List Entry) Refusal → Result ℕ Refusal
compact_by (Ok es) = Ok (journal_length es)
compact_by (Err why) = Err why

abbrev pub compacted_by : List ℕ → Result (List Entry) Refusal → List ℕ
compacted_by s (Ok es) = journal_of es (length s)
compacted_by s (Err why) = s

unfoldable pub compact_of : List ℕ → Result ℕ Refusal
compact_of s = compact_by (says_of s)

unfoldable pub compacted_of : List ℕ → List ℕ
compacted_of s = compacted_by s (says_of s)

-- an answer as the paper's numbers: the refusal, 0 where there is none; the new length, 0 where refused
abbrev pub refusal_in : {T : Type 0} → Result T Refusal → ℕ
refusal_in (Ok answer) = 0
refusal_in (Err why) = number_of why

abbrev pub length_in : Result ℕ Refusal → ℕ
length_in (Ok n) = n
length_in (Err why) = 0
