-- What blocks add to a report (02, No. 12).
-- Assumes nothing.
use Rattle.std.specs.Prelude.{cond, ◌&&◌, List, [], ◌∷◌, ℕ, eqb, set, Result, Ok, Err}
use Rattle.block.specs.Bits.{zeros}
use Rattle.block.specs.Packed.{read_packed}
use Rattle.block.specs.declared.Body.{Body}
use Rattle.block.specs.declared.Refused.{Refused}
use Rattle.record.specs.Editions.{is_filler}
use Rattle.record.specs.declared.Edition.{Edition}
use Rattle.journal.specs.declared.Entry.{Entry}
use Rattle.reception.specs.Reports.{fresh_report, plus}
use Rattle.reception.specs.declared.Report.{Report}

-- a good block counts among the fillers where it has code 0 and the edition takes its word for one
abbrev pub one_filler : Edition → ℕ → ℕ → ℕ
one_filler edition code word = cond (eqb code 0 && is_filler edition word) 1 0

-- one block: a good one counts under its code too
abbrev pub one_block : Edition → Result Body Refused → Report
one_block edition (Ok body) =
    record { blocks = 1; good = 1; fillers = one_filler edition body.code body.word; codes = set (zeros 16) body.code 1 }
one_block edition (Err why) = record { blocks = 1; good = 0; fillers = 0; codes = zeros 16 }

-- the blocks of some entries
unfoldable pub tally_of : Edition → List Entry → Report
tally_of edition [] = fresh_report
tally_of edition (e ∷ es) = plus (one_block edition (read_packed e.block)) (tally_of edition es)
