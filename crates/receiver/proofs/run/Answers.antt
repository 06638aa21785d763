-- `run` meets its contract: fifty bits are packed, run and unpacked; where a value is no bit the state is not proper.
-- Assumes nothing.
use borrow.Author.Rules.{rules}
use borrow.Author.Tests.{lt-ltb, le-ltb}
use mathlib.Core.Path.{◌≡◌, sym, ◌∙◌}
use lib.ListN.{length}
use Rattle.receiver.specs.Runs.{run_of}
use Rattle.receiver.proofs.Layouts.{ran_back, not_proper}
use Rattle.receiver.proofs.run.Goals as goal
use Rattle.receiver.proofs.run.Goals.{then-bits-gt65536, else-bits-gt65536}

pub returns-in_default : goal.returns-in_default
unfolding run_of
returns-in_default c =
    let s = c.args.state in
    let bits = c.args.bits.now in
    let fifty : length s.bits ≡ 50 = search rules in
    let improper = not_proper c.args.edition s fifty _ (sym c.try_from.ensures ∙ c.in_default.is) in
    elim c.if-bits-gt65536.branch [
      | then-bits-gt65536 w ↦ rw (c.refused.ensures, w.why-is, lt-ltb 65536 (length bits) w.if-bits-gt65536.true)
      | else-bits-gt65536 w ↦ rw (c.refused.ensures, w.why-is, le-ltb 65536 (length bits) w.if-bits-gt65536.false, improper)
    ]

pub returns : goal.returns
returns c =
    let s = c.args.state in
    ran_back _ s _ (sym c.try_from.ensures ∙ c.in-Ok.is) _ _ c.run_packed-ran.ensures _ c.from-state.ensures
