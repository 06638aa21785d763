-- `pick_bits` meets its contract: after a character that ends the input the bits stand at the front, and so they do after the last.
-- Assumes nothing.
use Rattle.std.proofs.Common.{arith, refl}
use Rattle.input.proofs.Picking.{pick, skip, stop, all_read}
use Rattle.input.proofs.pick_bits.Goals as goal
use Rattle.input.proofs.pick_bits.Goals.{in-10, in-48, in_default-via-then-c-lt48, in_default-via-else-c-lt48+else-c-lt50}

pub returns-in_default : goal.returns-in_default
returns-in_default c =
    elim c.in_default.branch [
      | in_default-via-then-c-lt48 w ↦
          stop _ _ _ _ c.loop-i.invariant c.loop-i-test.true (omega arith) (omega arith) (omega arith) _ refl refl
      | in_default-via-else-c-lt48+else-c-lt50 w ↦
          stop _ _ _ _ c.loop-i.invariant c.loop-i-test.true (omega arith) (omega arith) (omega arith) _ refl refl
    ]

pub loop-i-preserved : goal.loop-i-preserved
loop-i-preserved c =
    elim c.match-c.branch [
      | in-10 w ↦ rw (w.characters-is, w.bits-is) (skip _ _ _ _ c.loop-i.invariant c.loop-i-test.true (omega arith))
      | in-48 w ↦ rw (w.characters-is, w.bits-is) (pick _ _ _ _ c.loop-i.invariant c.loop-i-test.true (omega arith) (omega arith))
    ]

pub returns : goal.returns
returns c = all_read _ _ _ _ c.loop-i.invariant c.loop-i-test.false _ refl refl
