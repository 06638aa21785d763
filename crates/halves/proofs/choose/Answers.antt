-- `choose` meets its contract: each arm is the case that its tests leave.
-- Assumes nothing.
use mathlib.Core.List.{List}
use mathlib.Core.Path.{◌≡◌, sym, ap, ◌∙◌}
use Prim.Native.Nat.{ℕ}
use native.Mathlib.Omega.{arith}
use lib.Ieee.{Float}
use lib.ListN.{take, drop}
use Rattle.halves.specs.Pairs.{count_opposite, opposite_under}
use Rattle.halves.specs.declared.Pairing.TheVariants.{FromSecond}
use Rattle.halves.proofs.Choosing.{without_first, more_from_first, more_from_second, as_many}
use Rattle.halves.proofs.choose.Goals as goal

-- the second count, of the readings without the first
from_second : (readings : List Float) {second : ℕ} → second ≡ count_opposite (take 63 (drop 1 readings)) → second ≡ opposite_under FromSecond readings
from_second readings d = d ∙ ap count_opposite (without_first readings)

pub returns-then-from_second-from_first : goal.returns-then-from_second-from_first
returns-then-from_second-from_first c =
    let given = c.args.readings.now in
    c.room_for.ensures
    ∙ sym (more_from_first given _ (omega (arith, c.count_opposite-from_first.ensures, from_second given c.count_opposite-from_second.ensures)))

pub returns-then-from_first-from_second : goal.returns-then-from_first-from_second
returns-then-from_first-from_second c =
    let given = c.args.readings.now in
    c.room_for-then-from_first-from_second.ensures
    ∙ sym (more_from_second given _ (omega (arith, c.count_opposite-from_first.ensures, from_second given c.count_opposite-from_second.ensures)))

pub returns : goal.returns
returns c =
    let given = c.args.readings.now in
    let first = c.count_opposite-from_first.ensures in
    let second = from_second given c.count_opposite-from_second.ensures in
    sym (as_many given _ (omega (arith, first, second)) (omega (arith, first, second)))
