-- The trailer, the last sixteen bytes, points back: the offset of the first entry still wanted, and how many are wanted from there (02,
-- No. 12).
-- Assumes nothing.
use Rattle.std.specs.Prelude.{Bool, cond, ◌&&◌, List, ℕ, ◌+◌, ◌*◌, ◌-◌, ◌%◌, eqb, ltb, leb, length, drop, Result, Ok, Err}
use Rattle.refusal.specs.declared.Refusal.{Refusal}
use Rattle.refusal.specs.declared.Refusal.TheVariants.{WrongTrailer}
use Rattle.big_endian.specs.Bytes.{number_at}
use Rattle.journal.specs.Entries.{entries_of}
use Rattle.journal.specs.Order.{verdict_from}
use Rattle.journal.specs.declared.Entry.{Entry}
use Rattle.journal.specs.declared.Wanted.{Wanted}

unfoldable pub offset_in : List ℕ → ℕ
offset_in s = number_at s (length s - 16)

unfoldable pub count_in : List ℕ → ℕ
count_in s = number_at s (length s - 16 + 8)

-- it fits when length, which is not 0, and offset are multiples of 16 and the entries end at or before it
unfoldable pub trailer_fits : List ℕ → Bool
trailer_fits s = ltb 0 (length s) && (eqb (length s % 16) 0 && (eqb (offset_in s % 16) 0 && leb (offset_in s + 16 * count_in s) (length s - 16)))

-- what it points at: else 23
unfoldable pub pointed_of : List ℕ → Result Wanted Refusal
pointed_of s = cond (trailer_fits s) (Ok (record { first = offset_in s; count = count_in s })) (Err WrongTrailer)

-- these entries are wanted if they are sound: else the refusal of the first that is not, 24 or 14
abbrev pub judged : Result (Unit {0}) Refusal → Wanted → Result Wanted Refusal
judged (Ok sound) wanted = Ok wanted
judged (Err why) wanted = Err why

-- the entries that lie there
abbrev pub entries_there : List ℕ → Wanted → List Entry
entries_there s wanted = entries_of wanted.count (drop wanted.first s)

abbrev pub if_sound : List ℕ → Result Wanted Refusal → Result Wanted Refusal
if_sound s (Ok wanted) = judged (verdict_from 0 (entries_there s wanted)) wanted
if_sound s (Err why) = Err why

unfoldable pub wanted_of : List ℕ → Result Wanted Refusal
wanted_of s = if_sound s (pointed_of s)

-- what a journal says: the wanted entries, or why it says nothing
abbrev pub says_in : List ℕ → Result Wanted Refusal → Result (List Entry) Refusal
says_in s (Ok wanted) = Ok (entries_there s wanted)
says_in s (Err why) = Err why

unfoldable pub says_of : List ℕ → Result (List Entry) Refusal
says_of s = says_in s (wanted_of s)
