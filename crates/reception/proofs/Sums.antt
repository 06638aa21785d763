-- Reports add up: it is the same which comes first, and a fresh one changes nothing.
-- Assumes nothing.
use mathlib.Core.Path.{◌≡◌, ◌∙◌}
use native.Mathlib.Nat.{add-zero, add_comm, add_assoc}
use Rattle.reception.specs.Laws.{Sixteen, SumsAgree}
use Rattle.reception.specs.Reports.{fresh_report, plus}
use Rattle.reception.specs.declared.Report.{Report}
use Rattle.reception.proofs.Totals.{adds_comm, adds_assoc, adds_zeros}

pub plus_comm : (r s : Report) → plus r s ≡ plus s r
plus_comm r s =
    rw (add_comm r.blocks s.blocks, add_comm r.good s.good, add_comm r.fillers s.fillers, adds_comm r.codes s.codes)

pub plus_assoc : (r s t : Report) → plus (plus r s) t ≡ plus r (plus s t)
plus_assoc r s t =
    rw (add_assoc r.blocks, add_assoc r.good, add_assoc r.fillers, adds_assoc r.codes)

module _ (r : Report) (sixteen : Sixteen r) where
  pub plus_fresh : plus r fresh_report ≡ r
  plus_fresh = rw (add-zero r.blocks, add-zero r.good, add-zero r.fillers, adds_zeros r.codes 16 sixteen)

  pub fresh_plus : plus fresh_report r ≡ r
  fresh_plus = plus_comm fresh_report r ∙ plus_fresh

pub sums_agree : SumsAgree
sums_agree = record { either = plus_comm; any = plus_assoc; none = plus_fresh }
