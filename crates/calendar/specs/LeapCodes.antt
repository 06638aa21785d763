-- The leap code, which says how near a leap year is, by edition (01, "The time record"; 02, No. 3; the edition of 1982, 6.2.1, note 8).
-- Inside the calendar every fourth year is leap: 1901 counts as a year after a leap year, and 2099 as one before.
-- Assumes nothing.
use Rattle.std.specs.Prelude.{ℕ, ◌+◌, ◌%◌, Bool, List, [], ◌∷◌, eqb, get_or}
use Rattle.record.specs.declared.Edition.{Edition}
use Rattle.record.specs.declared.Edition.TheVariants.{Of1984, Of1982}

-- the codes of 1982: 3 where this year is leap, 2 where last year was, then 0 for the rest, and 1 where next year is
abbrev pub codes_of_1982 : List ℕ
codes_of_1982 = 3 ∷ 2 ∷ 0 ∷ 1 ∷ []

-- the code of a year; in 1984 0 where this year is leap, 1 where last year was, then 2, and 3 where next year is
unfoldable pub leap_code : Edition → ℕ → ℕ
leap_code Of1984 y = y % 4
leap_code Of1982 y = get_or codes_of_1982 (y % 4) 0

-- the code says that its own year is leap
unfoldable pub says_leap : Edition → ℕ → Bool
says_leap Of1984 code = eqb code 0
says_leap Of1982 code = eqb code 3

-- the next year's code: in 1984 the codes count on, in 1982 2 follows 3, then 0, 1 and 3 again
unfoldable pub next_leap_code : Edition → ℕ → ℕ
next_leap_code Of1984 code = (code + 1) % 4
next_leap_code Of1982 code = get_or (1 ∷ 3 ∷ 0 ∷ 2 ∷ []) code 0
