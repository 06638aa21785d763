-- The edition that a program is asked for (02, No. 3). No contract can say which arguments it is given.
-- Assumes nothing.
use Rattle.std.specs.Prelude.{List, ℕ, Result, Ok, Err}
use Rattle.refusal.specs.declared.Refusal.{Refusal}
use Rattle.refusal.specs.declared.Refusal.TheVariants.{OutOfRange}
use Rattle.arguments.specs.Editions.{edition_in}
use Rattle.record.specs.declared.Edition.{Edition}
use Rattle.record.specs.declared.Edition.TheVariants.{Of1984}

-- that of 1984 where none is named, the one that a text names, and none where there are more texts
pub data Asked : Result Edition Refusal → Type 0 where
  usual : Asked (Ok Of1984)
  named : (text : List ℕ) → Asked (edition_in text)
  several : Asked (Err OutOfRange)
