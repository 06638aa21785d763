-- `sums` meets its contract: the six values are at the powers of a that the checker computes.
-- Assumes nothing.
use Rattle.std.proofs.Common.{◌≡◌, ◌≢◌, ◌<◌, ◌∙◌, length, get_or, arith, below_more, get_or-set_other, get_or-set_same}
use Rattle.big_endian.specs.Digits.{digits}
use Rattle.field16.specs.Field.{power}
use Rattle.field16.specs.Words.{at}
use Rattle.field16.proofs.Entries.{written_out}
use Rattle.power_sums.specs.Sums.{sums_from}
use Rattle.power_sums.proofs.sums.Goals as goal

pub loop-i-preserved : goal.loop-i-preserved
loop-i-preserved c =
    let lp = c.loop-i in
    let inside : lp.i < length lp.value-items = omega arith in
    below_more _ _
    (λ k h. let ne : k ≢ lp.i = omega arith in rw get_or-set_other (lp.invariant k h))
    (rw get_or-set_same c.value_at.ensures)

pub returns : goal.returns
unfolding sums_from power
returns c =
    let word = digits 4 6 c.args.symbols in
    let s = c.loop-i.value-items in
    let first : get_or s 0 0 ≡ at 2 word = c.loop-i.invariant 0 (omega arith) in
    let second : get_or s 1 0 ≡ at 4 word = c.loop-i.invariant 1 (omega arith) in
    let third : get_or s 2 0 ≡ at 8 word = c.loop-i.invariant 2 (omega arith) in
    let fourth : get_or s 3 0 ≡ at 3 word = c.loop-i.invariant 3 (omega arith) in
    let fifth : get_or s 4 0 ≡ at 6 word = c.loop-i.invariant 4 (omega arith) in
    let sixth : get_or s 5 0 ≡ at 12 word = c.loop-i.invariant 5 (omega arith) in
    written_out s 6 (omega arith) ∙ rw (first, second, third, fourth, fifth, sixth)
