-- `mend` meets its contract: the word itself, the word with its wrong symbols taken off, or no codeword that is near.
-- Assumes nothing.
use Rattle.std.proofs.Common.{arith, ◌%◌, ◌^◌}
use lib.Bits.{xor_lt}
use Rattle.symbols.proofs.Nearest.{whole_near, mended_near, none_near}
use Rattle.symbols.proofs.mend.Goals as goal

pub returns-then-difference-eq0 : goal.returns-then-difference-eq0
returns-then-difference-eq0 c = (omega arith, whole_near c.args.word c.checks.result c.checks.ensures.are c.if-difference-eq0.true)

pub returns-in_err-explain : goal.returns-in_err-explain
returns-in_err-explain c = rw c.from_residual.ensures (none_near c.args.word c.checks.result c.checks.ensures.are c.in_err-explain.ensures)

pub returns : goal.returns
returns c =
    let word = c.args.word in
    let wrong = c.in_ok-explain.ensures in
    (xor_lt 60 (word % 2 ^ 60) _ (omega arith) wrong.fits, mended_near word c.checks.result c.checks.ensures.are _ wrong)
