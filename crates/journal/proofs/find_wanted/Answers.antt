-- `find_wanted` meets its contract: what the trailer points at, by the verdict on it.
-- Assumes nothing.
use Rattle.std.proofs.Common.{sym, ◌∙◌, arith}
use Rattle.std.proofs.lemmas.Result.{err_from_is_err_and}
use Rattle.journal.proofs.Pointing.{pointed_inside, sound_wanted, faulty_refused, refused_too, verdict_there}
use Rattle.journal.proofs.find_wanted.Goals as goal

pub returns-in_err-wanted : goal.returns-in_err-wanted
returns-in_err-wanted c =
    let p = err_from_is_err_and c.from_residual.result c.from_residual.ensures.1 in
    rw (p.1, p.2) (refused_too c.args.journal.now (sym c.in_err-wanted.ensures))

pub overflow_mul-end : goal.overflow_mul-end
overflow_mul-end c = omega (arith, pointed_inside c.args.journal.now c.in_ok-wanted.wanted (sym c.in_ok-wanted.ensures))

pub overflow_add-end : goal.overflow_add-end
overflow_add-end c = omega (arith, pointed_inside c.args.journal.now c.in_ok-wanted.wanted (sym c.in_ok-wanted.ensures))

pub slice_bounds-check_entries-end : goal.slice_bounds-check_entries-end
slice_bounds-check_entries-end c = omega (arith, pointed_inside c.args.journal.now c.in_ok-wanted.wanted (sym c.in_ok-wanted.ensures))

pub returns-in_err-check_entries : goal.returns-in_err-check_entries
returns-in_err-check_entries c =
    let s = c.args.journal.now in
    let w = c.in_ok-wanted.wanted in
    let points = sym c.in_ok-wanted.ensures in
    let p = err_from_is_err_and c.from_residual-in_err-check_entries.result c.from_residual-in_err-check_entries.ensures.1 in
    rw (p.1, p.2)
    (faulty_refused s w points (sym (verdict_there s w (omega (arith, pointed_inside s w points)) c.check_entries.ensures) ∙ c.in_err-check_entries.was))

pub returns : goal.returns
returns c =
    let s = c.args.journal.now in
    let w = c.in_ok-wanted.wanted in
    let points = sym c.in_ok-wanted.ensures in
    sound_wanted s w points (sym (verdict_there s w (omega (arith, pointed_inside s w points)) c.check_entries.ensures) ∙ c.in_ok-check_entries.was)
