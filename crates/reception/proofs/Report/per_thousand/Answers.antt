-- `per_thousand` meets its contract: a proper report has so few blocks that a thousand times as many still fit.
-- Assumes nothing.
use borrow.Author.Tests.{eq-eqb, ne_eqb}
use mathlib.Core.Path.{sym, ◌∙◌}
use native.Mathlib.Omega.{arith}
use Rattle.reception.specs.Share.{share_of}
use Rattle.reception.proofs.Parts.{small}
use Rattle.reception.proofs.Report.per_thousand.Goals as goal

pub returns-then-self-eq0 : goal.returns-then-self-eq0
unfolding share_of
returns-then-self-eq0 c =
    rw (← c.is_proper.ensures, c.if-is_proper.true, eq-eqb c.args.self.now.blocks 0 (omega arith))

pub overflow_mul-thousands : goal.overflow_mul-thousands
overflow_mul-thousands c =
    omega (arith, small c.args.self.now (sym c.is_proper.ensures ∙ c.if-is_proper.true))

pub returns-then-is_proper : goal.returns-then-is_proper
unfolding share_of
returns-then-is_proper c =
    rw (← c.is_proper.ensures, c.if-is_proper.true, ne_eqb c.args.self.now.blocks 0 (λ e. omega arith))

pub returns : goal.returns
unfolding share_of
returns c = rw (← c.is_proper.ensures, c.if-is_proper.false)
