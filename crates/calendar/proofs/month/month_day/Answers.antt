-- `calendar::month::month_day` meets its contract: a month that has the day ends the search, and none has it past the last.
-- Assumes nothing.
use Rattle.std.proofs.Common.{arith, suc, ◌+◌, ◌-◌, ◌≤◌, ◌<◌, ◌≡◌, get_or, sym, subst, ◌∙◌}
use Rattle.calendar.specs.Days.{months}
use Rattle.calendar.proofs.Months.{here, later, past}
use Rattle.calendar.proofs.month.month_day.Goals as goal

pub returns-then-left-length : goal.returns-then-left-length
returns-then-left-length c =
    let e : c.loop-month.left ≤ get_or (months c.args.leap) (c.loop-month.month - 1) 0 =
    subst (λ n. c.loop-month.left ≤ n) c.month_length-length.ensures c.if-left-length.true in
    sym (sym c.loop-month.invariant ∙ here (months c.args.leap) (c.loop-month.month - 1) c.loop-month.month c.loop-month.left (omega arith) e)

pub loop-month-preserved : goal.loop-month-preserved
loop-month-preserved c =
    let ns = months c.args.leap in
    let m = c.loop-month.month in
    let less = subst (λ n. n < c.loop-month.left) c.month_length-length.ensures c.if-left-length.false in
    let next : suc (m - 1) ≡ m + 1 - 1 = omega arith in
    rw (← next, c.month_length-length.ensures) (sym (later ns (m - 1) m c.loop-month.left (omega arith) less) ∙ c.loop-month.invariant)

pub returns : goal.returns
returns c =
    sym (sym c.loop-month.invariant ∙ past (months c.args.leap) (c.loop-month.month - 1) c.loop-month.month c.loop-month.left (omega arith))
