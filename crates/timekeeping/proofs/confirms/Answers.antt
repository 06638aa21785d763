-- `confirms` meets its contract at a whole number of minutes. The goal is named, so that a wrong age is refused at its own fact.
-- Assumes nothing.
use Rattle.std.proofs.Common.{◌+◌, ◌%◌, arith}
use borrow.Author.Tests.{eq-eqb}
use Rattle.record.proofs.Tests.{is_within}
use Rattle.timekeeping.specs.Times.{confirms}
use Rattle.timekeeping.proofs.confirms.Goals as goal

pub returns-then-offered-eq0 : goal.returns-then-offered-eq0
unfolding confirms
returns-then-offered-eq0 c =
    let offered = c.args.age + 1 in
    rw (is_within 30 offered 120 (omega arith) (omega arith), eq-eqb (offered % 30) 0 c.if-offered-eq0.true) c.comes_later.ensures
