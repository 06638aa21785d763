-- What holds of joining, of the product of remainders and of the powers of x (02, No. 9).
-- Assumes nothing.
use Rattle.std.specs.Prelude.{List, [], ◌++◌, ◌≡◌, ℕ, ◌+◌, ◌%◌, ◌^◌, ◌<◌, ◌≤◌, Ok, length}
use Rattle.std.specs.Int.Bits.{bit_xor}
use Rattle.block.specs.Bits.{Bits, bits_of, xors}
use Rattle.block.specs.Division.{remainder}
use Rattle.block.specs.Polynomials.{product}
use Rattle.joining.specs.Joining.{times, power_of_x, remainder_of, join_of}

-- joining gives the remainder of the joined strings, however long the first is
abbrev pub Joins : Type 0
Joins =
    (xs ys : List ℕ) → Bits xs → Bits ys → length ys ≤ 65536 → join_of (remainder xs) (remainder ys) (length ys) ≡ Ok (remainder (xs ++ ys))

-- so the two calls agree: what they tell of two strings, joined, is what is told of both together, where that is not too long
abbrev pub CallsAgree : Type 0
CallsAgree =
    (xs ys : List ℕ) (a b : ℕ) → length (xs ++ ys) ≤ 65536 → remainder_of xs ≡ Ok a → remainder_of ys ≡ Ok b
    → join_of a b (length ys) ≡ remainder_of (xs ++ ys)

-- The law of joining: what comes out can be joined on; of three it does not matter which two are joined first, while the added lengths
-- are taken; nothing changes where the empty string is joined, before or behind; and the sum of two strings of one length leaves the
-- sum of what they leave.
pub record JoiningLaw : Type 0 where
  pub closed : (a b n ab : ℕ) → join_of a b n ≡ Ok ab → ab < 8192
  pub associative :
      (a b c m n ab bc : ℕ) → m + n ≤ 65536 → join_of a b m ≡ Ok ab → join_of b c n ≡ Ok bc → join_of ab c n ≡ join_of a bc (m + n)
  pub empty_first : (r n : ℕ) → r < 8192 → n ≤ 65536 → join_of (remainder []) r n ≡ Ok r
  pub empty_second : (r : ℕ) → r < 8192 → join_of r (remainder []) (length {A = ℕ} []) ≡ Ok r
  pub sums : (xs ys : List ℕ) → Bits xs → Bits ys → length xs ≡ length ys → remainder (xors xs ys) ≡ bit_xor (remainder xs) (remainder ys)

-- the laws of the product; 25 digits hold all of it
pub record ProductLaws (a b c : ℕ) : Type 0 where
  pub fits : product (bits_of 13 a) b < 2 ^ 25
  pub commutative : times a b ≡ times b a
  pub associative : times a (times b c) ≡ times (times a b) c
  pub distributes : times a (bit_xor b c) ≡ bit_xor (times a b) (times a c)

abbrev pub Product : Type 0
Product = (a b c : ℕ) → a < 8192 → b < 8192 → c < 8192 → ProductLaws a b c

-- powers of x are multiplied by adding what they are raised to; x^178 is 1, so the power is that of the length modulo 178
pub record PowerLaws : Type 0 where
  pub adds : (m n : ℕ) → power_of_x (m + n) ≡ times (power_of_x m) (power_of_x n)
  pub one : power_of_x 178 ≡ 1
  pub repeats : (n : ℕ) → power_of_x n ≡ power_of_x (n % 178)
