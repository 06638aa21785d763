-- The numbers of the refusals (01, "Numbers given when something is refused"; 02, Nos. 1, 6, 8, 9, 10 and 12).
-- Assumes nothing.
use Rattle.std.specs.Prelude.{ℕ}
use Rattle.refusal.specs.declared.Refusal.{Refusal}
use Rattle.refusal.specs.declared.Refusal.TheVariants.{NotABit, WrongLength, WrongPrefix, WrongCheckWord, NotARecord, OutOfRange, NotInYear, WrongYear, RunTooLong, Improper, TooFewReadings, OutOfDegrees, EqualPairings, NumberTooWide, NoSuchChange, SeveralChanges, StringTooLong, NotARemainder, WrongSize, WrongFixedBits, NoCodeword, WrongCrc, WrongTrailer, NotRising, TooManyBlocks, NoRoom}

-- each row of the table, in its order, then those of the requests; 0 is left for "not refused"
abbrev pub number_of : Refusal → ℕ
number_of NotABit = 1
number_of WrongLength = 2
number_of WrongPrefix = 3
number_of WrongCheckWord = 4
number_of NotARecord = 5
number_of OutOfRange = 6
number_of NotInYear = 7
number_of WrongYear = 8
number_of RunTooLong = 9
number_of Improper = 10
number_of TooFewReadings = 11
number_of OutOfDegrees = 12
number_of EqualPairings = 13
number_of NumberTooWide = 14
number_of NoSuchChange = 15
number_of SeveralChanges = 16
number_of StringTooLong = 17
number_of NotARemainder = 18
number_of WrongSize = 19
number_of WrongFixedBits = 20
number_of NoCodeword = 21
number_of WrongCrc = 22
number_of WrongTrailer = 23
number_of NotRising = 24
number_of TooManyBlocks = 30
number_of NoRoom = 31
