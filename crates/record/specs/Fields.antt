-- Where the fields of a record stand in its word (01, "The time record").
-- Assumes nothing.
use Rattle.std.specs.Prelude.{ℕ, ◌+◌, ◌*◌, ◌-◌, ◌/◌, ◌%◌, ◌^◌, cond, ltb, ℤ, pos, negsuc}
use Rattle.record.specs.declared.Record.{Record}

-- the number in the bits of a word that have `below` bits below them and are `wide` bits
abbrev pub field : ℕ → ℕ → ℕ → ℕ
field word below wide = word / 2 ^ below % 2 ^ wide

-- the first message bit: 0 in a time block
abbrev pub flag_of : ℕ → ℕ
flag_of word = field word 31 1

-- six bits in two's complement: 0 to 31 stand for themselves, 32 to 63 for -32 to -1
unfoldable pub offset_of : ℕ → ℤ
offset_of six = cond (ltb six 32) (pos six) (negsuc (63 - six))

-- the six bits of a number from -32 to 31; `negsuc n` is -(n + 1)
unfoldable pub six_of : ℤ → ℕ
six_of (pos n) = n
six_of (negsuc n) = 63 - n

-- the fields below the flag, as they stand in a word: 2, 3, 6, 3, 5, 6 and 6 bits
unfoldable pub fields_of : ℕ → Record
fields_of word =
    record {
      leap = field word 29 2;
      start_day = field word 26 3;
      week = field word 20 6;
      weekday = field word 17 3;
      hour = field word 12 5;
      minute = field word 6 6;
      offset = offset_of (field word 0 6);
    }

-- the word with these fields below a flag of 0: each field is put behind those before it
unfoldable pub word_of : Record → ℕ
word_of r =
    (((((r.leap * 2 ^ 3 + r.start_day) * 2 ^ 6 + r.week) * 2 ^ 3 + r.weekday) * 2 ^ 5 + r.hour) * 2 ^ 6 + r.minute) * 2 ^ 6
    + six_of r.offset
