-- A journal is bytes; what it says is a list of entries (02, No. 12). An entry is a bit number in eight bytes and a block as one number in
-- eight, big_endian.
-- Assumes nothing.
use Rattle.std.specs.Prelude.{List, [], ◌∷◌, ◌++◌, ℕ, zero, suc, take, drop}
use Rattle.big_endian.specs.Digits.{digits, number}
use Rattle.journal.specs.declared.Entry.{Entry}

-- the entry at the front of some bytes
unfoldable pub entry_of : List ℕ → Entry
entry_of s = record { bit = number 8 (take 8 s); block = number 8 (take 8 (drop 8 s)) }

-- the first n entries of some bytes
unfoldable pub entries_of : ℕ → List ℕ → List Entry
entries_of zero s = []
entries_of (suc n) s = entry_of s ∷ entries_of n (drop 16 s)

-- two numbers in sixteen bytes
unfoldable pub pair_bytes : ℕ → ℕ → List ℕ
pair_bytes first second = digits 8 8 first ++ digits 8 8 second

-- the bytes that say a list of entries
unfoldable pub bytes_of : List Entry → List ℕ
bytes_of [] = []
bytes_of (e ∷ es) = pair_bytes e.bit e.block ++ bytes_of es
