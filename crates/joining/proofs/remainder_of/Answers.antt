-- `remainder_of` meets its contract. The loop's invariant: what was seen were bits, and test and division of what is left go on to the
-- same ends.
-- Assumes nothing.
use borrow.Author.Tests.{le-leb, lt-leb}
use mathlib.Core.Bool.{true, false}
use Rattle.std.specs.Prelude.{Ok}
use mathlib.Core.Path.{◌≡◌, sym, ap, ◌∙◌}
use Prim.Native.Nat.{ℕ, ◌<◌, ◌+◌}
use native.Mathlib.Omega.{arith}
use lib.ListN.{length, get_or, drop}
use Rattle.block.specs.Bits.{are_bits}
use Rattle.block.specs.Division.{remainder_from}
use Rattle.block.proofs.Linear.{stepped_lt}
use Rattle.block.proofs.Strings.{are_next, are_not, are_done, rem_next, rem_done}
use Rattle.joining.specs.Joining.{remainder_of}
use Rattle.joining.proofs.remainder_of.Goals as goal

pub returns-then-bits-gt65536 : goal.returns-then-bits-gt65536
unfolding remainder_of
returns-then-bits-gt65536 c = rw (lt-leb (length c.args.bits.now) 65536 (omega arith))

pub returns-then-bit-gt1 : goal.returns-then-bit-gt1
unfolding remainder_of
returns-then-bit-gt1 c =
    let s = c.args.bits.now in
    let e : are_bits s ≡ false = sym c.loop-bit.invariant.1 ∙ are_not s c.loop-bit.bit-index (omega arith) (omega arith) in
    rw (le-leb (length s) 65536 (omega arith), e)

pub overflow_cast-register : goal.overflow_cast-register
overflow_cast-register c =
    omega (arith, stepped_lt c.turn-register.ensures c.loop-bit.invariant.0 (omega arith))

pub loop-bit-preserved : goal.loop-bit-preserved
loop-bit-preserved c =
    let s = c.args.bits.now in
    let i = c.loop-bit.bit-index in
    let b : get_or s i 0 < 2 = omega arith in (
      stepped_lt c.turn-register.ensures c.loop-bit.invariant.0 b,
      sym (are_next s i (omega arith) b) ∙ c.loop-bit.invariant.1,
      ap (λ (r : ℕ). remainder_from r (drop (i + 1) s)) c.turn-register.ensures
          ∙ sym (rem_next s c.loop-bit.register i (omega arith)) ∙ c.loop-bit.invariant.2,
    )

pub overflow_cast-result : goal.overflow_cast-result
overflow_cast-result c = omega (arith, c.loop-bit.invariant.0)

pub returns : goal.returns
unfolding remainder_of
returns c =
    let s = c.args.bits.now in
    let i = c.loop-bit.bit-index in
    let e : are_bits s ≡ true = sym c.loop-bit.invariant.1 ∙ are_done s i (omega arith) in
    rw (le-leb (length s) 65536 (omega arith), e) (ap Ok (sym (rem_done s c.loop-bit.register i (omega arith)) ∙ c.loop-bit.invariant.2))
