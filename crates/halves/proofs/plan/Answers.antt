-- `plan` meets its contract: each arm is the case that its tests leave.
-- Assumes nothing.
use borrow.Author.Tests.{lt-ltb, le-ltb}
use lib.ListN.{length}
use Rattle.halves.specs.Answer.{plan_of}
use Rattle.halves.proofs.plan.Goals as goal

pub returns-then-readings-lt64 : goal.returns-then-readings-lt64
unfolding plan_of
returns-then-readings-lt64 c = rw (lt-ltb (length c.args.readings.now) 64 c.if-readings-lt64.true)

pub returns-then-all_in_range-is_margin : goal.returns-then-all_in_range-is_margin
unfolding plan_of
returns-then-all_in_range-is_margin c =
    rw (
      le-ltb (length c.args.readings.now) 64 c.if-readings-lt64.false,
      ← c.all_in_range.ensures,
      ← c.is_margin.ensures,
      c.if-all_in_range-is_margin.true,
    ) c.choose.ensures

pub returns : goal.returns
unfolding plan_of
returns c =
    rw (
      le-ltb (length c.args.readings.now) 64 c.if-readings-lt64.false,
      ← c.all_in_range.ensures,
      ← c.is_margin.ensures,
      c.if-all_in_range-is_margin.false,
    )
