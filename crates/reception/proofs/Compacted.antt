-- A report is counted from what a journal says, and compaction leaves what says the same.
-- Assumes nothing.
use Rattle.std.proofs.Common.{cond, List, Result, Err, sym, ap, ◌∙◌}
use Rattle.refusal.specs.declared.Refusal.{Refusal}
use Rattle.refusal.specs.declared.Refusal.TheVariants.{Improper}
use Rattle.journal.specs.declared.Entry.{Entry}
use Rattle.journal.proofs.Keeping.{wanted_kept}
use Rattle.reception.specs.Adding.{add_of, with_said}
use Rattle.reception.specs.Laws.{SameReport}
use Rattle.reception.specs.Reports.{is_proper}

pub same_report : SameReport
unfolding add_of
same_report edition r s bytes es said =
    ap (λ (says : Result (List Entry) Refusal). cond (is_proper r) (with_said edition r says) (Err Improper)) ((wanted_kept s bytes es said).says ∙ sym said)
