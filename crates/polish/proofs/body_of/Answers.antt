-- `body_of` meets its contract: the fields fit, so no flag leaves its place.
-- Assumes nothing.
use Rattle.std.proofs.Common.{ℕ, ◌+◌, ◌*◌, ◌^◌, ap, arith}
use lib.Bits.{bit_xor, xor_lt}
use Rattle.big_endian.specs.Digits.{number}
use Rattle.polish.specs.Frame.{key, body_of, flags_of}
use Rattle.polish.proofs.Flags.{flag_more, flag_small, plain_whole}
use Rattle.polish.proofs.body_of.Goals as goal

pub loop-flag-init : goal.loop-flag-init
unfolding number
loop-flag-init c = record { flags = c.flags-flag-items.ensures; small = omega arith; is = omega arith }

pub overflow_mul-plain : goal.overflow_mul-plain
overflow_mul-plain c =
    let l = c.loop-flag in
    omega (arith, (flag_small c.args.time l.plain l.flag-index c.requires l.invariant.flags c.loop-flag-test.true l.invariant.small).0)

pub overflow_add-plain-in-loop-flag : goal.overflow_add-plain-in-loop-flag
overflow_add-plain-in-loop-flag c =
    let l = c.loop-flag in
    omega (arith, (flag_small c.args.time l.plain l.flag-index c.requires l.invariant.flags c.loop-flag-test.true l.invariant.small).0)

pub loop-flag-preserved : goal.loop-flag-preserved
loop-flag-preserved c =
    let time = c.args.time in
    let l = c.loop-flag in
    record {
      flags = l.invariant.flags;
      small = rw c.from.ensures (flag_small time l.plain l.flag-index c.requires l.invariant.flags c.loop-flag-test.true l.invariant.small).1;
      is = rw (c.from.ensures, l.invariant.flags) (flag_more (5 * 2 ^ 30 + time.periods) l.plain l.flag-index (flags_of time) c.loop-flag-test.true l.invariant.is);
    }

pub returns : goal.returns
unfolding body_of
returns c =
    let time = c.args.time in
    let l = c.loop-flag in
    let whole = plain_whole time l.plain l.flag-index (omega arith) (omega arith) l.invariant.is in
    (xor_lt 40 l.plain key (omega arith) (omega arith), ap (λ (n : ℕ). bit_xor n key) whole)
