-- `sums` meets its contract. The loop's invariant: the values that were stored are those at their places.
-- Assumes nothing.
use Rattle.std.proofs.Common.{◌≡◌, ℕ, ◌<◌, get_or}
use Rattle.big_endian.specs.Digits.{digits}
use Rattle.field16.specs.Words.{at}
use Rattle.power_sums.proofs.sums.Given as goal

abbrev pub invariant-loop-i : goal.invariant-loop-i
invariant-loop-i l = (k : ℕ) → k < l.i → get_or l.value-items k 0 ≡ at (get_or l.places k 0) (digits 4 6 l.symbols)
