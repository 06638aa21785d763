-- `compact` meets its contract: what the journal says is settled, or nothing is touched.
-- Assumes nothing.
use Rattle.std.proofs.Common.{◌≡◌, ◌+◌, ◌*◌, length, drop, Ok, sym, ap, ◌∙◌, arith}
use Rattle.std.proofs.lemmas.Result.{err_from_is_err_and}
use Rattle.journal.specs.Compaction.{compact_of, compacted_of, compact_by, compacted_by}
use Rattle.journal.specs.Trailer.{entries_there}
use Rattle.journal.proofs.Pointing.{wanted_inside, wanted_says, refused_says}
use Rattle.journal.proofs.Sixteens.{length_entries}
use Rattle.journal.proofs.compact.Goals as goal

pub returns-in_err-wanted-clause-told : goal.returns-in_err-wanted-clause-told
unfolding compact_of
returns-in_err-wanted-clause-told c =
    let p = err_from_is_err_and c.from_residual.result c.from_residual.ensures.1 in
    rw (p.1, p.2, refused_says c.args.journal.now (sym c.in_err-wanted.ensures))

pub returns-in_err-wanted-clause-left : goal.returns-in_err-wanted-clause-left
unfolding compacted_of
returns-in_err-wanted-clause-left c = rw (refused_says c.args.journal.now (sym c.in_err-wanted.ensures))

pub settle-requires : goal.settle-requires
settle-requires c = wanted_inside c.args.journal.now c.in_ok-wanted.wanted (sym c.in_ok-wanted.ensures)

pub overflow_mul-result : goal.overflow_mul-result
overflow_mul-result c = omega (arith, wanted_inside c.args.journal.now c.in_ok-wanted.wanted (sym c.in_ok-wanted.ensures))

pub overflow_add-result : goal.overflow_add-result
overflow_add-result c = omega (arith, wanted_inside c.args.journal.now c.in_ok-wanted.wanted (sym c.in_ok-wanted.ensures))

pub returns-clause-told : goal.returns-clause-told
unfolding compact_of
returns-clause-told c =
    let s = c.args.journal.now in
    let w = c.in_ok-wanted.wanted in
    let size : w.count * 16 + 16 ≡ 16 * length (entries_there s w) + 16 = omega (arith, length_entries w.count (drop w.first s)) in
    ap Ok size ∙ sym (ap compact_by (wanted_says s w (sym c.in_ok-wanted.ensures)))

pub returns-clause-left : goal.returns-clause-left
unfolding compacted_of
returns-clause-left c =
    let s = c.args.journal.now in
    c.settle.ensures ∙ sym (ap (compacted_by s) (wanted_says s c.in_ok-wanted.wanted (sym c.in_ok-wanted.ensures)))
