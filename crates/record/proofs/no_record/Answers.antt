-- `record::no_record` meets its contract: the tests come in the order of the definition, and where both pass the first bit is set.
-- Assumes nothing.
use native.Mathlib.Omega.{arith}
use borrow.Author.Tests.{eq-eqb, ne_eqb}
use Rattle.record.specs.Fields.{flag_of}
use Rattle.record.specs.Words.{read_of}
use Rattle.record.proofs.no_record.Goals as goal

pub returns-then-code-ne0 : goal.returns-then-code-ne0
unfolding read_of
returns-then-code-ne0 c = rw (ne_eqb _ 0 c.if-code-ne0.true)

pub returns-then-is_filler : goal.returns-then-is_filler
unfolding read_of
returns-then-is_filler c = rw (eq-eqb _ 0 c.if-code-ne0.false, ← c.is_filler.ensures, c.if-is_filler.true)

pub returns : goal.returns
unfolding read_of
returns c =
    rw (
      eq-eqb _ 0 c.if-code-ne0.false,
      ← c.is_filler.ensures,
      c.if-is_filler.false,
      ne_eqb (flag_of c.args.word) 0 (λ clear. c.requires (omega (arith, c.if-code-ne0.false))),
    )
