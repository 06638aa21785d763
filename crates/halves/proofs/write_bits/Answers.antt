-- `write_bits` meets its contract. The loop's invariant: the bits written are those that are asked.
-- Assumes nothing.
use Rattle.std.proofs.Common.{◌≢◌, ◌<◌, ap, ◌∙◌, length, arith, below_more, get_or-set_other, get_or-set_same}
use Rattle.std.proofs.lemmas.List.{ext_get_or}
use Rattle.halves.specs.Decision.{decision_of, bit_of}
use Rattle.halves.specs.declared.Pair.{Pair}
use Rattle.halves.proofs.TwoByTwo.{bit_there, bits_length}
use Rattle.halves.proofs.write_bits.Goals as goal

pub loop-n-preserved : goal.loop-n-preserved
loop-n-preserved c =
    let lp = c.loop-n in
    let args = c.args in
    let inside : lp.n < length lp.bits = omega arith in
    let pair = ap (λ (p : Pair). bit_of args.polarity (decision_of args.margin p)) c.from.ensures in
    let there = bit_there args.polarity args.margin args.readings.now c.as_chunks.result.0.now lp.n _ c.as_chunks.ensures.front (omega arith) in
    below_more _ _
    (λ k h. let ne : k ≢ lp.n = omega arith in rw get_or-set_other (lp.invariant k h))
    (rw get_or-set_same (c.bit.ensures ∙ pair ∙ there))

pub returns : goal.returns
returns c =
    let args = c.args in
    let many = bits_length args.polarity args.margin args.readings.now in
    ext_get_or 0 _ _ (omega (arith, many)) (λ k h. c.loop-n.invariant k (omega arith))
