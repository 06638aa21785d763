-- The Reed-Solomon code of fifteen symbols, nine and six check symbols (02, No. 10; 002, 3): a symbol is an element of the field.
-- Assumes nothing.
use Rattle.std.specs.Prelude.{cond, List, [], ◌∷◌, ◌++◌, map, ◌≡◌, ℕ, suc, ◌≤◌, ◌<◌, ◌^◌, eqb, length, drop}
use Rattle.std.specs.Int.Bits.{bit_xor}
use Rattle.block.specs.Bits.{xors, zeros}
use Rattle.big_endian.specs.Digits.{digits}
use Rattle.field16.specs.Field.{times, power}
use Rattle.field16.specs.Words.{a_to, Symbols, at}

-- a codeword vanishes at the generator's roots, a^1 to a^6
pub record Codeword (word : List ℕ) : Type 0 where
  pub size : length word ≡ 15
  pub symbols : Symbols word
  pub roots : (j : ℕ) → 1 ≤ j → j ≤ 6 → at (a_to j) word ≡ 0

-- in how many places two words differ; a place that only one of them has counts
unfoldable pub differing : List ℕ → List ℕ → ℕ
differing [] cs = length cs
differing (b ∷ bs) [] = suc (length bs)
differing (b ∷ bs) (c ∷ cs) = cond (eqb b c) (differing bs cs) (suc (differing bs cs))

-- a codeword that a word is mended to: it differs in at most three places
pub record Near (word codeword : List ℕ) : Type 0 where
  pub code : Codeword codeword
  pub within : differing word codeword ≤ 3

-- each symbol times y
abbrev pub scaled : ℕ → List ℕ → List ℕ
scaled y word = map (times y) word

-- a polynomial, its highest coefficient first, times x + r
unfoldable pub times_root : ℕ → List ℕ → List ℕ
unfolding times xors
times_root r p = xors (p ++ (0 ∷ [])) (0 ∷ scaled r p)

-- the generator: the product of x + a^1 to x + a^6
unfoldable pub generator : List ℕ
unfolding times_root power
generator =
    times_root (a_to 6) (times_root (a_to 5) (times_root (a_to 4)
    (times_root (a_to 3) (times_root (a_to 2) (times_root (a_to 1) (1 ∷ []))))))

-- one symbol through the encoder: the register of six moves up, and what leaves it at the top comes back times the generator
unfoldable pub encode_step : List ℕ → ℕ → List ℕ
unfolding generator
encode_step [] s = []
encode_step (top ∷ rest) s = xors (rest ++ (0 ∷ [])) (scaled (bit_xor top s) (drop 1 generator))

unfoldable pub encode_from : List ℕ → List ℕ → List ℕ
unfolding encode_step
encode_from register [] = register
encode_from register (s ∷ ss) = encode_from (encode_step register s) ss

-- the six check symbols: the remainder of the symbols times x^6 by the generator
abbrev pub checks_of : List ℕ → List ℕ
checks_of symbols = encode_from (zeros 6) symbols

-- c is the check symbols of n, nine symbols and six in one number each
pub record Checked (n c : ℕ) : Type 0 where
  pub small : c < 2 ^ 24
  pub are : digits 4 6 c ≡ checks_of (digits 4 9 n)
