-- Adding a journal under the edition that a number names; a number that names none is refused before every other test, and the report is as
-- it was (02, No. 3).
-- Assumes nothing.
use Rattle.std.specs.Prelude.{List, ℕ, Result, Err}
use Rattle.refusal.specs.declared.Refusal.{Refusal}
use Rattle.record.specs.Editions.{edition_of, under}
use Rattle.reception.specs.Adding.{add_of}
use Rattle.reception.specs.declared.Report.{Report}

abbrev pub add_under : ℕ → Report → List ℕ → Result Report Refusal
add_under number r journal = under (edition_of number) (λ edition. add_of edition r journal) (λ why. Err why)
