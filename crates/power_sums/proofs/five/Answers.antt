-- `five` meets its contract: the list written out is six elements, and of those the definition gives what the code makes.
-- Assumes nothing.
use mathlib.Core.Path.{sym, ap}
use native.Mathlib.Omega.{arith}
use Rattle.field16.proofs.Entries.{written_out}
use Rattle.power_sums.specs.Sums.{take_away}
use Rattle.power_sums.proofs.five.Goals as goal

pub returns : goal.returns
unfolding take_away
returns c =
    rw (
      c.times.ensures,
      c.times-2.ensures,
      c.times-3.ensures,
      c.times-4.ensures,
      c.times-5.ensures,
    ) (sym (ap (take_away c.args.x) (written_out c.args.s 6 (omega arith))))
