-- Strings of bits: lists of numbers, the first sent bit first.
-- Assumes nothing.
use Rattle.std.specs.Prelude.{Bool, true, ◌&&◌, List, [], ◌∷◌, ◌++◌, ℕ, zero, suc, ◌+◌, ◌*◌, ◌/◌, ◌%◌, ◌<◌, ltb, replicate}
use Rattle.std.specs.Int.Bits.{bit_xor}

-- in memory a bit is a byte of value 0 or 1 (01, "The block")
abbrev pub Bits : List ℕ → Type 0
Bits [] = Unit {0}
Bits (b ∷ bs) = (b < 2) × Bits bs

-- the same, as a test
abbrev pub are_bits : List ℕ → Bool
are_bits [] = true
are_bits (b ∷ bs) = ltb b 2 && are_bits bs

abbrev pub zeros : ℕ → List ℕ
zeros k = replicate k 0

-- the lowest k bits of n, most significant first (BBC RD 1984/19, 5.2)
unfoldable pub bits_of : ℕ → ℕ → List ℕ
bits_of zero n = []
bits_of (suc k) n = bits_of k (n / 2) ++ (n % 2 ∷ [])

-- the number that the bits write, most significant first, where a stands above them
unfoldable pub value_from : ℕ → List ℕ → ℕ
value_from a [] = a
value_from a (b ∷ bs) = value_from (a * 2 + b) bs

abbrev pub value : List ℕ → ℕ
value bs = value_from 0 bs

-- the sum of two strings modulo 2, place by place; as long as the shorter
unfoldable pub xors : List ℕ → List ℕ → List ℕ
xors [] cs = []
xors (b ∷ bs) [] = []
xors (b ∷ bs) (c ∷ cs) = bit_xor b c ∷ xors bs cs
