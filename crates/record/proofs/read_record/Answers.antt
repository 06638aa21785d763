-- `record::read_record` meets its contract: what is no time block is refused for its reason, and past the tests the fields decide.
-- Assumes nothing.
use native.Mathlib.Omega.{arith}
use mathlib.Core.Path.{sym, ◌∙◌}
use borrow.Author.Tests.{eq-eqb}
use Rattle.record.specs.Words.{read_of}
use Rattle.record.proofs.Reading.{read_fields}
use Rattle.record.proofs.read_record.Goals as goal

pub returns-then-is_filler : goal.returns-then-is_filler
unfolding read_of
returns-then-is_filler c = rw (eq-eqb c.args.code 0 (omega arith), ← c.is_filler.ensures, c.if-is_filler.true)

pub returns-then-in_range : goal.returns-then-in_range
returns-then-in_range c = rw (read_fields c.args.edition c.args.code c.args.word (omega arith) (sym c.is_filler.ensures ∙ c.if-is_filler.false) (omega arith), ← c.fields-record.ensures, ← c.in_range.ensures, c.if-in_range.true)

pub returns-else-in_range : goal.returns-else-in_range
returns-else-in_range c = rw (read_fields c.args.edition c.args.code c.args.word (omega arith) (sym c.is_filler.ensures ∙ c.if-is_filler.false) (omega arith), ← c.fields-record.ensures, ← c.in_range.ensures, c.if-in_range.false)
