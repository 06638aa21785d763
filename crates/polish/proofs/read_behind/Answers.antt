-- `read_behind` meets its contract: each return is the case of the mending, and of the CRC, that led there.
-- Assumes nothing.
use Rattle.std.proofs.Common.{◌≡◌, sym, ◌∙◌}
use Rattle.std.proofs.lemmas.Result.{err_from_is_err_and}
use Rattle.refusal.specs.declared.Refusal.TheVariants.{NoCodeword}
use Rattle.polish.proofs.Behind.{farther, mismatched, matched}
use Rattle.polish.proofs.read_behind.Goals as goal

pub returns-in_err-word : goal.returns-in_err-word
returns-in_err-word c =
    let a = c.args in
    let told = c.in_err-word.ensures in
    let left = err_from_is_err_and c.from_residual.result c.from_residual.ensures.1 in
    let value = rw told.ok_part at told.value in
    let same : c.in_err-word.field-0.0 ≡ NoCodeword = cc in
    rw (left.1, left.2, same) (farther a.body a.checks a.sent c.requires.1 c.mend.result c.mend.ensures told.ok_part)

pub returns-then-crc-sent : goal.returns-then-crc-sent
returns-then-crc-sent c =
    let a = c.args in
    mismatched a.body a.checks a.sent c.requires.1 c.mend.result c.mend.ensures _ c.in_ok-word.ensures.ok_part (λ e. c.if-crc-sent.true (c.crc.ensures ∙ e))

pub returns : goal.returns
returns c =
    let a = c.args in
    matched a.body a.checks a.sent c.requires.1 c.mend.result c.mend.ensures _ c.in_ok-word.ensures.ok_part c.time_in.result
    (sym c.crc.ensures ∙ c.if-crc-sent.false) c.time_in.ensures
