-- What six symbols that are missed are explained by (02, No. 10): at most three wrong symbols in a word of fifteen.
-- Assumes nothing.
use Rattle.std.specs.Prelude.{List, ◌≡◌, ℕ, ◌≤◌, ◌<◌, ◌^◌, length, Option, Some, None}
use Rattle.big_endian.specs.Digits.{digits}
use Rattle.field16.specs.Words.{weight}
use Rattle.power_sums.specs.Sums.{six_sums}

-- fifteen symbols in one number, at most three of them not 0, that have these power sums
pub record Mistakes (s : List ℕ) (n : ℕ) : Type 0 where
  pub fits : n < 2 ^ 60
  pub few : weight (digits 4 15 n) ≤ 3
  pub sums : six_sums (digits 4 15 n) ≡ s

-- the answer: such symbols with the power sums of the six, or that no three symbols have them
abbrev pub Explains : List ℕ → Option ℕ → Type 0
Explains six (Some n) = Mistakes (six_sums six) n
Explains six None = (word : List ℕ) → length word ≡ 15 → weight word ≤ 3 → six_sums word ≡ six_sums six → ⊥
