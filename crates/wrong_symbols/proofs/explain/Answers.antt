-- `explain` meets its contract: the symbols at the places that were found, or no three symbols, since their places would have been found.
-- Assumes nothing.
use mathlib.Core.List.{List}
use mathlib.Core.Path.{sym, ◌∙◌, subst}
use Prim.Native.Nat.{ℕ, ◌<◌}
use Rattle.std.specs.Prelude.{None}
use Rattle.big_endian.specs.Digits.{digits}
use Rattle.power_sums.specs.Sums.{take_away}
use Rattle.power_sums.proofs.Lists.{symbols_sums}
use Rattle.wrong_symbols.specs.Search.{Second}
use Rattle.wrong_symbols.proofs.Complete.{pair_missed}
use Rattle.wrong_symbols.proofs.explain.Goals as goal

pub returns-in_err-places : goal.returns-in_err-places
returns-in_err-places c =
    rw c.from_residual.ensures
    (λ word l few e. pair_missed word l (subst (λ (s : List ℕ). (z : ℕ) → 0 < z → z < 16 → Second (take_away z s) z None) (c.sums-s.ensures ∙ sym e) c.in_err-places.ensures) few)

pub mistakes-requires : goal.mistakes-requires
mistakes-requires c = (rw c.sums-s.ensures (symbols_sums 1 6 (digits 4 6 _)), c.in_ok-places.ensures)
