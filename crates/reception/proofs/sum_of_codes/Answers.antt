-- `sum_of_codes` meets its contract: each code's sum comes in behind those before it.
-- Assumes nothing.
use Rattle.std.proofs.Common.{arith}
use Rattle.reception.proofs.Totals.{place_le, waits, comes_in, all_in}
use Rattle.reception.proofs.sum_of_codes.Goals as goal

pub overflow_add-sums : goal.overflow_add-sums
overflow_add-sums c =
    let one = c.args.one.now in
    let other = c.args.other.now in
    let i = c.loop-code.code in
    omega (arith, waits one other i (omega arith) (omega arith) c.loop-code.invariant, place_le one i, place_le other i)

pub loop-code-preserved : goal.loop-code-preserved
loop-code-preserved c =
    comes_in c.args.one.now c.args.other.now c.loop-code.code (omega arith) (omega arith) c.loop-code.invariant

pub returns : goal.returns
returns c =
    all_in c.args.one.now c.args.other.now c.loop-code.code (omega arith) (omega arith) c.loop-code.invariant
