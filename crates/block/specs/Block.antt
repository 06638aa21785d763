-- The block of fifty bits (01, "The block"; BBC RD 1984/19, 5.1 and Fig. 6).
-- Assumes nothing.
use Rattle.std.specs.Prelude.{◌≡◌, List, [], ◌∷◌, ◌++◌, ℕ, length, get_or, take, drop}
use Rattle.std.specs.Int.Bits.{bit_xor}
use Rattle.block.specs.Bits.{Bits, bits_of, value, zeros}
use Rattle.block.specs.Division.{remainder}

-- the places: 1 bit of prefix, 4 of code, 32 of word, 13 of check word
abbrev pub prefix_in : List ℕ → ℕ
prefix_in s = get_or s 0 0

abbrev pub code_in : List ℕ → List ℕ
code_in s = take 4 (drop 1 s)

abbrev pub word_in : List ℕ → List ℕ
word_in s = take 32 (drop 5 s)

abbrev pub check_in : List ℕ → List ℕ
check_in s = drop 37 s

-- code and word together: the 36 bits that the check word protects. The prefix is not among them
abbrev pub body_in : List ℕ → List ℕ
body_in s = take 36 (drop 1 s)

-- the check word of 36 bits: the remainder of them times x^13, which is of them and thirteen zeros
abbrev pub check_of : List ℕ → ℕ
check_of body = remainder (body ++ zeros 13)

-- good: fifty bits, the prefix 1, and the check word that remainder
pub record Good (s : List ℕ) : Type 0 where
  pub size : length s ≡ 50
  pub bits : Bits s
  pub prefix : prefix_in s ≡ 1
  pub check : value (check_in s) ≡ check_of (body_in s)

-- the block with its first bit inverted, as the report's decoder divides it (BBC RD 1984/19, 5.3)
abbrev pub inverted : List ℕ → List ℕ
inverted [] = []
inverted (b ∷ bs) = bit_xor b 1 ∷ bs

-- the block that carries a code and a word
unfoldable pub body_of : ℕ → ℕ → List ℕ
unfolding bits_of
body_of code word = bits_of 4 code ++ bits_of 32 word

unfoldable pub block_of : ℕ → ℕ → List ℕ
unfolding body_of
block_of code word = 1 ∷ (body_of code word ++ bits_of 13 (check_of (body_of code word)))
