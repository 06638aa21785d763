-- Remainders of joined strings (02, No. 9). A string of any length is divided by the generator as it is, not times x^13 first.
-- Assumes nothing.
use Rattle.std.specs.Prelude.{Bool, cond, List, ◌∷◌, ℕ, Result, Ok, Err, ltb, leb, length}
use Rattle.std.specs.Int.Bits.{bit_xor}
use Rattle.refusal.specs.declared.Refusal.{Refusal}
use Rattle.refusal.specs.declared.Refusal.TheVariants.{NotABit, StringTooLong, NotARemainder}
use Rattle.block.specs.Bits.{are_bits, bits_of, zeros}
use Rattle.block.specs.Division.{remainder}
use Rattle.block.specs.Polynomials.{product}
-- of an answer the refusal as the paper's number
pub use Rattle.block.specs.Write.{refusal_of}

-- the product of two remainders modulo the generator: what is left of the product of the polynomials, which has no power above x^24
unfoldable pub times : ℕ → ℕ → ℕ
times a b = remainder (bits_of 25 (product (bits_of 13 a) b))

-- x to the n modulo the generator: what a 1 and n zeros leave
unfoldable pub power_of_x : ℕ → ℕ
power_of_x n = remainder (1 ∷ zeros n)

-- the remainder of two strings joined: the first's times x to the length of the second, plus the second's
abbrev pub joined : ℕ → ℕ → ℕ → ℕ
joined first second n = bit_xor (times first (power_of_x n)) second

-- a refusal where a test fails
abbrev pub must : Bool → Refusal → Result ℕ Refusal → Result ℕ Refusal
must test refusal answer = cond test answer (Err refusal)

-- the plain remainder of a string in memory; tests 17, 1
unfoldable pub remainder_of : List ℕ → Result ℕ Refusal
remainder_of s = must (leb (length s) 65536) StringTooLong (must (are_bits s) NotABit (Ok (remainder s)))

-- joining, also where no string of that length leaves the second; tests 17, 18 of the first and 18 of the second
unfoldable pub join_of : ℕ → ℕ → ℕ → Result ℕ Refusal
join_of first second n =
    must (leb n 65536) StringTooLong (must (ltb first 8192) NotARemainder (must (ltb second 8192) NotARemainder (Ok (joined first second n))))

-- the remainder of an answer, 0 where refused
abbrev pub remainder_in : Result ℕ Refusal → ℕ
remainder_in (Ok r) = r
remainder_in (Err refusal) = 0
