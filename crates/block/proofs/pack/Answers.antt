-- `pack` meets its contract. The loop's invariant: what was seen were bits, and test and value of what is left go on to the same ends.
-- Assumes nothing.
use borrow.Author.Tests.{eq-eqb, ne_eqb}
use Rattle.std.specs.Prelude.{Ok}
use mathlib.Core.Bool.{true, false}
use mathlib.Core.Path.{◌≡◌, sym, ap, ◌∙◌}
use Prim.Native.Nat.{ℕ, ◌<◌, ◌+◌, ◌*◌, ◌^◌}
use native.Mathlib.Nat.{pow-suc}
use native.Mathlib.Numerals.{add-one}
use native.Mathlib.Omega.{arith}
use lib.ListN.{length, get_or}
use Rattle.block.specs.Bits.{are_bits}
use Rattle.block.specs.Packed.{pack_of}
use Rattle.block.proofs.Strings.{are_next, are_not, are_done, val_next, val_done}
use Rattle.block.proofs.pack.Goals as goal

-- the number after one more bit, which still has room
one_more : (n i b : ℕ) → n < 2 ^ i → b < 2 → n * 2 + b < 2 ^ (i + 1)
one_more n i b h hb = rw (add-one, pow-suc) (omega arith)

pub returns-then-bits-ne50 : goal.returns-then-bits-ne50
unfolding pack_of
returns-then-bits-ne50 c = rw (ne_eqb _ _ c.if-bits-ne50.true)

pub returns-then-bit-gt1 : goal.returns-then-bit-gt1
unfolding pack_of
returns-then-bit-gt1 c =
    let s = c.args.bits.now in
    let e : are_bits s ≡ false = sym c.loop-bit.invariant.1 ∙ are_not s c.loop-bit.bit-index (omega arith) (omega arith) in
    rw (eq-eqb (length s) 50 (omega arith), e)

pub loop-bit-preserved : goal.loop-bit-preserved
loop-bit-preserved c =
    let s = c.args.bits.now in
    let i = c.loop-bit.bit-index in
    let b : get_or s i 0 < 2 = omega arith in (
      one_more c.loop-bit.number i (get_or s i 0) c.loop-bit.invariant.0 b,
      sym (are_next s i (omega arith) b) ∙ c.loop-bit.invariant.1,
      sym (val_next s c.loop-bit.number i (omega arith)) ∙ c.loop-bit.invariant.2,
    )

pub returns : goal.returns
unfolding pack_of
returns c =
    let s = c.args.bits.now in
    let i = c.loop-bit.bit-index in
    let e : are_bits s ≡ true = sym c.loop-bit.invariant.1 ∙ are_done s i (omega arith) in
    rw (eq-eqb (length s) 50 (omega arith), e) (ap Ok (sym (val_done s c.loop-bit.number i (omega arith)) ∙ c.loop-bit.invariant.2))
