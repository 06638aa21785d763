-- `add` meets its contract: what the journal says comes to a proper report.
-- Assumes nothing.
use Rattle.std.proofs.Common.{◌≡◌, ◌+◌, ◌*◌, ◌-◌, length, take, drop, sym, ap, ◌∙◌, arith, length-take, length-drop}
use Rattle.std.proofs.lemmas.Result.{err_from_is_err_and}
use Rattle.journal.proofs.Pointing.{wanted_inside}
use Rattle.journal.proofs.Sixteens.{entries_part}
use Rattle.reception.specs.Reports.{plus}
use Rattle.reception.specs.Tally.{tally_of}
use Rattle.reception.proofs.Journals.{improper, too_many, comes_to, says_nothing}
use Rattle.reception.proofs.Parts.{small}
use Rattle.reception.proofs.Report.add.Goals as goal

pub returns-then-not-is_proper : goal.returns-then-not-is_proper
returns-then-not-is_proper c =
    let a = c.args in
    let e = improper a.edition a.self.now a.journal.now (sym c.if-not-is_proper.ensures) in
    record { told = rw e; left = rw e }

pub returns-in_err-wanted : goal.returns-in_err-wanted
returns-in_err-wanted c =
    let a = c.args in
    let e = says_nothing a.edition a.self.now (sym c.if-not-is_proper.ensures) a.journal.now (sym c.in_err-wanted.ensures) in
    let p = err_from_is_err_and c.from_residual.result c.from_residual.ensures.1 in
    record { told = rw (p.1, p.2, e); left = rw e }

pub overflow_sub-self : goal.overflow_sub-self
overflow_sub-self c = omega (arith, small c.args.self.now (sym c.if-not-is_proper.ensures))

pub returns-then-self-wanted : goal.returns-then-self-wanted
returns-then-self-wanted c =
    let a = c.args in
    let e = too_many a.edition a.self.now (sym c.if-not-is_proper.ensures) a.journal.now c.in_ok-wanted.wanted (sym c.in_ok-wanted.ensures) (omega arith) in
    record { told = rw e; left = rw e }

pub overflow_mul-end : goal.overflow_mul-end
overflow_mul-end c = omega (arith, wanted_inside c.args.journal.now c.in_ok-wanted.wanted (sym c.in_ok-wanted.ensures))

pub overflow_add-end : goal.overflow_add-end
overflow_add-end c = omega (arith, wanted_inside c.args.journal.now c.in_ok-wanted.wanted (sym c.in_ok-wanted.ensures))

pub slice_bounds-count_entries-end : goal.slice_bounds-count_entries-end
slice_bounds-count_entries-end c = omega (arith, wanted_inside c.args.journal.now c.in_ok-wanted.wanted (sym c.in_ok-wanted.ensures))

pub count_entries-requires : goal.count_entries-requires
count_entries-requires c =
    let self = c.args.self.now in
    let s = c.args.journal.now in
    let w = c.in_ok-wanted.wanted in
    let proper = sym c.if-not-is_proper.ensures in
    let inside = wanted_inside s w (sym c.in_ok-wanted.ensures) in
    let size : length (take (w.first + 16 * w.count - w.first) (drop w.first s)) ≡ 16 * w.count = simp (length-take, length-drop) (omega arith) in
    (proper, omega (arith, size, small self proper))

pub returns : goal.returns
returns c =
    let self = c.args.self.now in
    let s = c.args.journal.now in
    let w = c.in_ok-wanted.wanted in
    let proper = sym c.if-not-is_proper.ensures in
    let inside = wanted_inside s w (sym c.in_ok-wanted.ensures) in
    let e = comes_to c.args.edition self proper s w (sym c.in_ok-wanted.ensures) (omega (arith, small self proper)) in
    let there = entries_part s w.first w.count (omega arith) in
    record { told = rw e; left = rw e (c.count_entries.ensures ∙ ap (λ es. plus self (tally_of c.args.edition es)) there) }
