-- The field of sixteen elements by x^4 + x + 1 (02, No. 10): an element is a number below 16, its bits the coefficients of x^3 to 1.
-- Of a larger number the lowest four bits count. The sum is `bit_xor`.
-- Assumes nothing.
use Rattle.std.specs.Prelude.{ℕ, zero, suc, ◌*◌, ◌/◌, ◌%◌}
use Rattle.std.specs.Int.Bits.{bit_xor}

-- two polynomials multiplied modulo 2: the first moved up to each place of the second that is set
unfoldable pub carryless : ℕ → ℕ → ℕ
carryless a b = bit_xor (b % 2 * a) (bit_xor (b / 2 % 2 * (a * 2)) (bit_xor (b / 4 % 2 * (a * 4)) (b / 8 % 2 * (a * 8))))

-- x^4 is x + 1, so what stands above x^3 comes back times x + 1
unfoldable pub reduced : ℕ → ℕ
unfolding carryless
reduced p = bit_xor (p % 16) (carryless 3 (p / 16))

unfoldable pub times : ℕ → ℕ → ℕ
unfolding reduced
times a b = reduced (carryless (a % 16) b)

-- a to the n
unfoldable pub power : ℕ → ℕ → ℕ
unfolding times
power a zero = 1
power a (suc n) = times a (power a n)

-- one over y, and 0 for 0: the fourteenth power, since the fifteenth of every other element is 1
unfoldable pub inverse_of : ℕ → ℕ
unfolding power
inverse_of y = power y 14
