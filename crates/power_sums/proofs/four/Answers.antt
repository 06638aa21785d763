-- `four` meets its contract: what a sixth number changes is only what is left last.
-- Assumes nothing.
use mathlib.Core.Path.{sym, ap}
use native.Mathlib.Omega.{arith}
use Rattle.field16.proofs.Entries.{written_out}
use Rattle.power_sums.specs.Sums.{take_away}
use Rattle.power_sums.proofs.four.Goals as goal

pub returns : goal.returns
unfolding take_away
returns c =
    let a = c.args in
    rw c.five-left.ensures (sym (ap (take_away a.x) (written_out a.t 5 (omega arith))))
