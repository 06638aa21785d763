-- The two editions of the specification, and which words are fillers in each (01, "The time record"; 02, No. 3; the edition of 1982,
-- 6.2.1, note 10).
-- Assumes nothing.
use Rattle.std.specs.Prelude.{ℕ, ◌^◌, Bool, cond, eqb, Result, Ok, Err}
use Rattle.refusal.specs.declared.Refusal.{Refusal}
use Rattle.refusal.specs.declared.Refusal.TheVariants.{OutOfRange}
use Rattle.record.specs.declared.Edition.{Edition}
use Rattle.record.specs.declared.Edition.TheVariants.{Of1984, Of1982}
use Rattle.record.specs.Fields.{field, flag_of}

-- a caller names an edition by its year; any other number gets 6
unfoldable pub edition_of : ℕ → Result Edition Refusal
edition_of number = cond (eqb number 1984) (Ok Of1984) (cond (eqb number 1982) (Ok Of1982) (Err OutOfRange))

-- what is answered in the edition that was named, or to the refusal where there is none
abbrev pub under : {A : Type 0} → Result Edition Refusal → (Edition → A) → (Refusal → A) → A
under (Ok edition) answer refused = answer edition
under (Err why) answer refused = refused why

-- a word of code 0 is a filler: in 1984 where its first bit is 1, in 1982 where its first six bits are 0, those of flag, leap code and
-- start day
unfoldable pub is_filler : Edition → ℕ → Bool
is_filler Of1984 word = eqb (flag_of word) 1
is_filler Of1982 word = eqb (field word 26 6) 0

-- the filler that is sent: in 1984 its first bit alone is set, in 1982 none is
abbrev pub filler : Edition → ℕ
filler Of1984 = 2 ^ 31
filler Of1982 = 0
