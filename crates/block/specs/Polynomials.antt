-- Polynomials modulo 2, and what a remainder is, so that nobody has to believe the circuit of `Division`.
-- As a number, a polynomial has its coefficients as binary digits, that of x^k in place k; as a string, they stand highest first, and
-- `value` is the number. The sum of two is `bit_xor`; times x^k is times 2^k.
-- Assumes nothing.
use Rattle.std.specs.Prelude.{List, [], ◌∷◌, ◌≡◌, ℕ, ◌*◌, ◌^◌, ◌<◌, length}
use Rattle.std.specs.Int.Bits.{bit_xor}
use Rattle.block.specs.Bits.{Bits, value}
use Rattle.block.specs.Division.{generator}

-- the product of two: for each coefficient of the first, highest first, the second times it, moved up by the places behind it
unfoldable pub product : List ℕ → ℕ → ℕ
product [] g = 0
product (q ∷ qs) g = bit_xor (q * g * 2 ^ length qs) (product qs g)

-- the generator is x^2+1 times x^11+x^10+x^5+x^4+1 (01, "The block")
abbrev pub Factored : Type 0
Factored = generator ≡ product (1 ∷ 0 ∷ 1 ∷ []) 0b1100_0011_0001

-- r is a remainder of s: s is some quotient times the generator, plus r, and r has no x^13 or higher
pub record RemainderOf (s : List ℕ) (r : ℕ) : Type 0 where
  pub quotient : List ℕ
  pub bits : Bits quotient
  pub whole : value s ≡ bit_xor (product quotient generator) r
  pub below : r < 8192
