-- Words of symbols (02, No. 10; 002, 3): a symbol is an element of the field, a word a polynomial, its first symbol the highest coefficient.
-- Assumes nothing.
use Rattle.std.specs.Prelude.{List, [], ◌∷◌, ℕ, zero, suc, ◌<◌, length}
use Rattle.std.specs.Int.Bits.{bit_xor}
use Rattle.field16.specs.Field.{times, power}

-- a to the j, where a is the element x
abbrev pub a_to : ℕ → ℕ
a_to j = power 2 j

abbrev pub Symbols : List ℕ → Type 0
Symbols [] = Unit {0}
Symbols (c ∷ cs) = (c < 16) × Symbols cs

-- the value of a word at X
unfoldable pub at : ℕ → List ℕ → ℕ
unfolding power
at X [] = 0
at X (c ∷ cs) = bit_xor (times c (power X (length cs))) (at X cs)

-- how many symbols are not 0
unfoldable pub weight : List ℕ → ℕ
weight [] = 0
weight (zero ∷ cs) = weight cs
weight (suc c ∷ cs) = suc (weight cs)
