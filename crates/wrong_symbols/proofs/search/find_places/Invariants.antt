-- `find_places` meets its contract. The loop's invariant: no place before the first has a second one beside it.
-- Assumes nothing.
use Rattle.std.proofs.Common.{ℕ, ◌<◌, None}
use Rattle.power_sums.specs.Sums.{take_away}
use Rattle.wrong_symbols.specs.Search.{Second}
use Rattle.wrong_symbols.proofs.search.find_places.Given as goal

abbrev pub invariant-loop-first : goal.invariant-loop-first
invariant-loop-first l = (z : ℕ) → z < l.first → 0 < z → Second (take_away z l.s) z None
