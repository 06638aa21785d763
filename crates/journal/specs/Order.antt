-- Entries in order: bit numbers strictly rising, and blocks with no bit above place 49 (02, Nos. 12 and 6). They are looked at one after the
-- other, and at each the order comes first.
-- Assumes nothing.
use Rattle.std.specs.Prelude.{cond, ◌&&◌, List, [], ◌∷◌, ℕ, suc, ◌+◌, ◌<◌, ◌^◌, leb, length, get_or, Option, Some, None, Result, Ok, Err}
use Rattle.refusal.specs.declared.Refusal.{Refusal}
use Rattle.refusal.specs.declared.Refusal.TheVariants.{NumberTooWide, NotRising}
use Rattle.block.specs.Packed.{fits}
use Rattle.journal.specs.declared.Checked.{Checked}
use Rattle.journal.specs.declared.Entry.{Entry}

-- the verdict on one entry that has to have at least a certain bit number: 24 before 14
abbrev pub verdict_on : ℕ → Entry → Result (Unit {0}) Refusal
verdict_on least e = cond (leb least e.bit) (cond (fits e.block) (Ok tt) (Err NumberTooWide)) (Err NotRising)

-- the verdict on entries of which the first has to have at least a certain bit number: the first fault decides, 24 before 14
unfoldable pub verdict_from : ℕ → List Entry → Result (Unit {0}) Refusal
verdict_from least [] = Ok tt
verdict_from least (e ∷ es) = cond (leb least e.bit) (cond (fits e.block) (verdict_from (e.bit + 1) es) (Err NumberTooWide)) (Err NotRising)

-- how many there are before the first fault
unfoldable pub sound_from : ℕ → List Entry → ℕ
sound_from least [] = 0
sound_from least (e ∷ es) = cond (leb least e.bit && fits e.block) (suc (sound_from (e.bit + 1) es)) 0

-- the first entry may have any bit number
unfoldable pub checked_of : List Entry → Checked
checked_of es = record { sound = sound_from 0 es; verdict = verdict_from 0 es }

-- the least bit number that may come behind the last entry's, where there is one
abbrev pub least_after : Option ℕ → ℕ
least_after None = 0
least_after (Some last) = last + 1

-- what it means, said of the whole list: each bit number is above every one before it, and each block has fifty bits
pub record InOrder (es : List Entry) : Type 0 where
  pub rising : (i j : ℕ) → i < j → j < length es → (get_or es i (record { bit = 0; block = 0 })).bit < (get_or es j (record { bit = 0; block = 0 })).bit
  pub allowed : (i : ℕ) → i < length es → (get_or es i (record { bit = 0; block = 0 })).block < 2 ^ 50
