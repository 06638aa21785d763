-- `calendar::month::days_before` meets its contract. The loop's invariant: the sum is that of the months before month m.
-- Assumes nothing.
use Rattle.std.proofs.Common.{arith, ◌≡◌, suc, ◌+◌, ◌-◌, refl, sym, ap, ◌∙◌}
use Rattle.calendar.specs.Days.{months, sum_of}
use Rattle.calendar.proofs.Months.{sum_suc}
use Rattle.calendar.proofs.month.days_before.Goals as goal

pub loop-m-init : goal.loop-m-init
unfolding sum_of
loop-m-init c = (omega arith, refl)

pub loop-m-preserved : goal.loop-m-preserved
loop-m-preserved c =
    let m = c.loop-m.m in
    let ns = months c.args.leap in
    let e : suc (m - 1) ≡ m + 1 - 1 = omega arith in
    let s : sum_of (m + 1 - 1) ns ≡ sum_of (m - 1) ns + c.month_length.result =
    ap (λ k. sum_of k ns) (sym e) ∙ sum_suc (m - 1) ns ∙ ap (λ n. sum_of (m - 1) ns + n) (sym c.month_length.ensures) in
    (omega arith, omega arith)
