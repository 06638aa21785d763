-- `write_packed` meets its contract: what the prefix, the code and the word leave is the check word, added below them.
-- Assumes nothing.
use borrow.Author.Tests.{lt-ltb}
use mathlib.Core.Path.{ap, ◌∙◌}
use native.Mathlib.Omega.{arith}
use Rattle.block.specs.Division.{remainder}
use Rattle.block.proofs.RoundTrip.{block_number, open_body}
use Rattle.block.proofs.write_packed.Goals as goal

pub returns : goal.returns
returns c =
    let a = c.args in
    let check = c.remainder.ensures ∙ ap remainder (open_body a.code a.word c.ranges.word.fits (omega arith)) in
    rw (lt-ltb a.code 16 (omega arith), check, block_number a.code a.word c.ranges.word.fits (omega arith))
