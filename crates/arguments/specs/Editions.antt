-- An edition as a user writes it.
-- Assumes nothing.
use Rattle.std.specs.Prelude.{List, ℕ, Option, None, Some, Result, Err}
use Rattle.refusal.specs.declared.Refusal.{Refusal}
use Rattle.refusal.specs.declared.Refusal.TheVariants.{OutOfRange}
use Rattle.record.specs.declared.Edition.{Edition}
use Rattle.record.specs.Editions.{edition_of}
use Rattle.arguments.specs.Numbers.{number_of}

-- the edition of the year that was written; what is no number gets 6, as another year does (02, No. 3)
abbrev pub edition_with : Option ℕ → Result Edition Refusal
edition_with (Some year) = edition_of year
edition_with None = Err OutOfRange

abbrev pub edition_in : List ℕ → Result Edition Refusal
edition_in text = edition_with (number_of text)
