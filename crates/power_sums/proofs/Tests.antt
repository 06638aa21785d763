-- Of four numbers the definition makes three tests.
-- Assumes nothing.
use Rattle.std.proofs.Common.{◌≡◌, ℕ, Bool, List, length, get_or, ap, ◌∙◌}
use mathlib.Core.Bool.{◌&&◌, and-true}
use lib.Dec.{eqb}
use Rattle.field16.specs.Field.{times}
use Rattle.field16.proofs.Entries.{written_out}
use Rattle.power_sums.specs.Sums.{goes_on}

-- the test of the i-th of some numbers and the next
abbrev test : ℕ → List ℕ → ℕ → ℕ → Bool
test x u i j = eqb (get_or u j 0) (times x (get_or u i 0))

pub three_tests : (x : ℕ) (u : List ℕ) → length u ≡ 4 → goes_on x u ≡ test x u 0 1 && (test x u 1 2 && test x u 2 3)
unfolding goes_on
three_tests x u l = ap (goes_on x) (written_out u 4 l) ∙ ap (λ (t : Bool). test x u 0 1 && (test x u 1 2 && t)) (and-true (test x u 2 3))
