-- Division of bit strings by the generator, modulo 2: the report's division circuit (BBC RD 1984/19, 5.3 and the Appendix).
-- A remainder is a number below 8,192, its highest bit the coefficient of x^12; the sum of two is `bit_xor`.
-- Assumes nothing.
use Rattle.std.specs.Prelude.{List, [], ◌∷◌, cond, ℕ, ◌+◌, ◌*◌, ltb}
use Rattle.std.specs.Int.Bits.{bit_xor}

-- x^13+x^12+x^11+x^10+x^7+x^6+x^5+x^4+x^2+1 (01, "The block"), a digit for each power from x^13 down
abbrev pub generator : ℕ
generator = 0b11_1100_1111_0101

-- the generator is taken off where an x^13 has come up
unfoldable pub reduce : ℕ → ℕ
reduce n = cond (ltb n 8192) n (bit_xor n generator)

-- one bit through the circuit: the register moves up one place and the bit comes in below
unfoldable pub step_bit : ℕ → ℕ → ℕ
unfolding reduce
step_bit r b = reduce (r * 2 + b)

-- a string through the circuit, first bit first, from what the register holds
unfoldable pub remainder_from : ℕ → List ℕ → ℕ
unfolding step_bit
remainder_from r [] = r
remainder_from r (b ∷ bs) = remainder_from (step_bit r b) bs

-- the remainder of a string: the register begins at zero
abbrev pub remainder : List ℕ → ℕ
remainder bs = remainder_from 0 bs
