-- `second` meets its contract. The loop's invariant: no place before y fits.
-- Assumes nothing.
use Rattle.std.proofs.Common.{ℕ, ◌<◌, ◌≡◌, ◌&&◌, not, eqb, false}
use Rattle.power_sums.specs.Sums.{take_away, fits}
use Rattle.wrong_symbols.proofs.search.second.Given as goal

abbrev pub invariant-loop-y : goal.invariant-loop-y
invariant-loop-y l = (z : ℕ) → z < l.y → 0 < z → not (eqb l.x z) && fits l.x z (take_away z l.t) ≡ false
