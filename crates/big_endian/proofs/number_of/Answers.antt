-- `number_of` meets its contract: eight bytes are read as one number, and else each byte comes in below those before it.
-- Assumes nothing.
use Rattle.std.proofs.Common.{arith, refl, ◌∙◌}
use Rattle.big_endian.specs.Digits.{number}
use Rattle.big_endian.proofs.Bytes.{kept_next, all_told, eight_all, eight_read}
use Rattle.big_endian.proofs.number_of.Goals as goal

pub returns-in-Some : goal.returns-in-Some
returns-in-Some c =
    let whole = c.in-Some.ensures.cases in
    eight_all c.args.bytes.now (λ i. omega (arith, c.type_inv.bytes i)) whole.long (c.from_be_bytes.ensures ∙ rw whole.same (eight_read c.args.bytes.now whole.long))

pub loop-byte-init : goal.loop-byte-init
unfolding number
loop-byte-init c = refl

pub loop-byte-preserved : goal.loop-byte-preserved
loop-byte-preserved c =
    let lp = c.loop-byte in
    let bytes = c.args.bytes.now in
    kept_next bytes lp.byte-index (omega arith) (omega (arith, c.type_inv.bytes lp.byte-index)) lp.invariant c.behind-total.ensures

pub returns : goal.returns
returns c =
    let lp = c.loop-byte in
    all_told c.args.bytes.now (λ i. omega (arith, c.type_inv.bytes i)) lp.byte-index (omega arith) lp.invariant
