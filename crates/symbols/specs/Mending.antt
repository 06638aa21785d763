-- Mending a word (02, No. 10): the nine symbols and the six together, exactly when a codeword differs from them in at most three.
-- Assumes nothing.
use Rattle.std.specs.Prelude.{List, ℕ, ◌<◌, ◌^◌, Option, Some, None}
use Rattle.big_endian.specs.Digits.{digits}
use Rattle.symbols.specs.Code.{Near}

-- the answer: a codeword near the word, fifteen symbols in one number, or that there is none
abbrev pub Mends : List ℕ → Option ℕ → Type 0
Mends word (Some n) = (n < 2 ^ 60) × Near word (digits 4 15 n)
Mends word None = (codeword : List ℕ) → Near word codeword → ⊥
