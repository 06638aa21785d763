-- `join` meets its contract: two proper reports of few enough blocks are added up, and each refusal is the definition's.
-- Assumes nothing.
use Rattle.std.proofs.Common.{sym, arith}
use Rattle.reception.proofs.Journals.{first_improper, second_improper, too_many_together, come_together}
use Rattle.reception.proofs.Parts.{small}
use Rattle.reception.proofs.Report.join.Goals as goal

pub returns-then-not-is_proper : goal.returns-then-not-is_proper
returns-then-not-is_proper c =
    let e = first_improper c.args.self.now c.args.other.now (sym c.if-not-is_proper.ensures) in
    record { told = rw e; left = rw e }

pub returns-then-not-is_proper-2 : goal.returns-then-not-is_proper-2
returns-then-not-is_proper-2 c =
    let e = second_improper c.args.self.now c.args.other.now (sym c.if-not-is_proper.ensures) (sym c.if-not-is_proper-2.ensures) in
    record { told = rw e; left = rw e }

pub overflow_sub-self : goal.overflow_sub-self
overflow_sub-self c = omega (arith, small c.args.self.now (sym c.if-not-is_proper.ensures))

pub returns-then-self-other : goal.returns-then-self-other
returns-then-self-other c =
    let e = too_many_together c.args.self.now c.args.other.now (sym c.if-not-is_proper.ensures) (sym c.if-not-is_proper-2.ensures) (omega arith) in
    record { told = rw e; left = rw e }

pub returns : goal.returns
returns c =
    let few = (small c.args.self.now (sym c.if-not-is_proper.ensures)).blocks in
    let e = come_together c.args.self.now c.args.other.now (sym c.if-not-is_proper.ensures) (sym c.if-not-is_proper-2.ensures) (omega arith) in
    record { told = rw e; left = rw e c.plus.ensures }
