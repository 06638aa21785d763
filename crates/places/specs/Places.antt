-- The starred places to look, in document 01's order (01, "Sixteen places to look"), and behind them that of document 02, No. 2, and three
-- that tell the edition of 1982 from that of 1984 (02, No. 3).
-- Assumes nothing.
use Rattle.std.specs.Prelude.{[], ◌∷◌, ◌++◌, ◌≡◌, ℕ, ℤ, pos, negsuc, Result, Ok, Err}
use Rattle.block.specs.Bits.{zeros}
use Rattle.block.specs.Block.{Good, block_of, body_of, check_of}
use Rattle.block.specs.Read as block
use Rattle.refusal.specs.declared.Refusal.{Refusal}
use Rattle.record.specs.Given.{given_record}
use Rattle.record.specs.Words as words
use Rattle.record.specs.declared.Edition.{Edition}
use Rattle.record.specs.declared.Edition.TheVariants.{Of1984, Of1982}
use Rattle.record.specs.declared.Record.{Record}
use Rattle.calendar.specs.Dates.{new_date, date_of, record_of}
use Rattle.calendar.specs.NextMinute.{next_minute_of}
use Rattle.calendar.specs.declared.Date.{Date}

-- the check word of code 0 and a word
abbrev pub check_word : ℕ → ℕ
check_word word = check_of (body_of 0 word)

-- the refusal's number of a word that is read as a record, 0 where there is one
abbrev pub word_refusal : Edition → ℕ → ℕ
word_refusal edition word = (given_record (words.read_of edition 0 word)).0

-- the date of a word, with 1970 the first of the 28 years
abbrev pub date_then : Edition → Result Record Refusal → Result Date Refusal
date_then edition (Ok r) = date_of edition r 1970
date_then edition (Err why) = Err why

abbrev pub date_of_word : Edition → ℕ → Result Date Refusal
date_of_word edition word = date_then edition (words.read_of edition 0 word)

-- midnight of a day, offset 0
abbrev pub midnight : ℕ → ℕ → ℕ → Date
midnight year month day = new_date year month day 0 0 (pos 0)

abbrev pub fields : ℕ → ℕ → ℕ → ℕ → ℕ → ℕ → ℤ → Record
fields leap start week weekday hour minute offset =
    record { leap = leap; start_day = start; week = week; weekday = weekday; hour = hour; minute = minute; offset = offset }

pub record Places : Type 0 where
  -- code 0, word 0: a 1 and 49 zeros, good; its record is refused with 6
  pub empty : (block_of 0 0 ≡ 1 ∷ zeros 49) × Good (block_of 0 0) × (word_refusal Of1984 0 ≡ 6)
  -- code 0, word 1: check word 0x1CF5
  pub word_one : check_word 1 ≡ 0x1CF5
  -- word 2: 0x051F
  pub word_two : check_word 2 ≡ 0x051F
  -- word 3: 0x19EA
  pub word_three : check_word 3 ≡ 0x19EA
  -- fifty zeros: 3
  pub all_zeros : block.refusal_in (block.read_of (zeros 50)) ≡ 3
  -- a 1, 48 zeros, a 1: 4
  pub last_changed : block.refusal_in (block.read_of (1 ∷ (zeros 48 ++ (1 ∷ [])))) ≡ 4
  -- word 0x4C160000: 1 January 1986, 00:00, offset 0
  pub new_year : date_of_word Of1984 0x4C160000 ≡ Ok (midnight 1986 1 1)
  -- word 0x4C16C882: the same day 12:34, offset 2
  pub ahead : date_of_word Of1984 0x4C16C882 ≡ Ok (new_date 1986 1 1 12 34 (pos 2))
  -- word 0x4C16C8BE: offset -2
  pub behind : date_of_word Of1984 0x4C16C8BE ≡ Ok (new_date 1986 1 1 12 34 (negsuc 1))
  -- word 0x4C16CF02: minute 60, refused with 6
  pub minute_sixty : word_refusal Of1984 0x4C16CF02 ≡ 6
  -- word 0x80000000: a filler, 5
  pub filler : word_refusal Of1984 0x80000000 ≡ 5
  -- 30 December 2012: week 52, weekday 7
  pub last_sunday : record_of Of1984 (midnight 2012 12 30) ≡ Ok (fields 0 7 52 7 0 0 (pos 0))
  -- 31 December 2012: week 1, weekday 1 of 2013, start day 2, leap code 1
  pub first_monday : record_of Of1984 (midnight 2012 12 31) ≡ Ok (fields 1 2 1 1 0 0 (pos 0))
  -- the minute after 23:59 in week 53, weekday 3 of 1986: 7, since that year has 52 weeks
  pub no_week_53 : (given_record (next_minute_of Of1984 (fields 2 3 53 3 23 59 (pos 0)))).0 ≡ 7
  -- 1 January 1982: week 53, weekday 5 of 1981, start day 4, leap code 1
  pub week_53 : record_of Of1984 (midnight 1982 1 1) ≡ Ok (fields 1 4 53 5 0 0 (pos 0))
  -- word 0x4C160000 under 1982: 1 January 1997, another year, so the edition must be given
  pub other_year : date_of_word Of1982 0x4C160000 ≡ Ok (midnight 1997 1 1)
  -- under 1982 word 0 is a filler, 5, and word 0x80000000 has its first bit set, 6
  pub six_zeros : word_refusal Of1982 0 ≡ 5
  pub first_bit : word_refusal Of1982 0x80000000 ≡ 6
