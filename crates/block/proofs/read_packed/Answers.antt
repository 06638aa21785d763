-- `read_packed` meets its contract: a number without a bit above place 49 reads by what is left behind its prefix.
-- Assumes nothing.
use mathlib.Core.Path.{sym, ap, ◌∙◌}
use native.Mathlib.Omega.{arith}
use Rattle.block.specs.Packed.{read_by}
use Rattle.block.proofs.Reading.{number_reads, reads_as, wide}
use Rattle.block.proofs.Strings.{thirteen}
use Rattle.block.proofs.read_packed.Goals as goal

pub returns-then-block-gt1125899906842623 : goal.returns-then-block-gt1125899906842623
returns-then-block-gt1125899906842623 c = rw c.from.ensures (wide c.args.block (omega arith))

pub overflow_cast-remainder : goal.overflow_cast-remainder
overflow_cast-remainder c = omega (arith, thirteen 49 _ c.remainder.ensures)

pub returns : goal.returns
returns c =
    let n = c.args.block in
    c.read_by.ensures ∙ ap (read_by n) c.remainder.ensures ∙ number_reads n (omega arith) ∙ sym (reads_as n (omega arith))
