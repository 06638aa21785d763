-- How the wrong symbols are found. Only private contracts name these; what is found is said by `Explains`.
-- Assumes nothing.
use Rattle.std.specs.Prelude.{Bool, true, false, List, ◌≡◌, ℕ, ◌≤◌, ◌<◌, ◌^◌, eqb, get_or, Option, Some, None}
use Rattle.std.specs.Int.Bits.{bit_xor}
use Rattle.field16.specs.Words.{a_to, at, weight}
use Rattle.big_endian.specs.Digits.{digits}
use Rattle.field16.specs.Field.{times, power, inverse_of}
use Rattle.power_sums.specs.Sums.{take_away, fits}
use Rattle.wrong_symbols.specs.declared.search.Minors.{Minors}
use Rattle.wrong_symbols.specs.declared.search.Places.{Places}

-- a second place beside x, where there is one: what is left of t without it fits
abbrev pub Second : List ℕ → ℕ → Option ℕ → Type 0
Second t x None = (z : ℕ) → 0 < z → z < 16 → (z ≡ x → ⊥) → fits x z (take_away z t) ≡ false
Second t x (Some y) = (0 < y) × (y < 16) × (y ≡ x → ⊥) × (fits x y (take_away y t) ≡ true)

-- two places that were found
pub record Found (s : List ℕ) (places : Places) : Type 0 where
  pub first : (0 < places.first) × (places.first < 16)
  pub second : (0 < places.second) × (places.second < 16)
  pub differ : places.second ≡ places.first → ⊥
  pub fit : fits places.first places.second (take_away places.second (take_away places.first s)) ≡ true

-- a first and a second place, where there are any
abbrev pub Pair : List ℕ → Option Places → Type 0
Pair s None = (z : ℕ) → 0 < z → z < 16 → Second (take_away z s) z None
Pair s (Some places) = Found s places

-- the minors of five numbers t0 to t4. Where two places make the numbers, they are some d, d times the places' sum, and d times their product
unfoldable pub minor_of : ℕ → ℕ → ℕ → ℕ → ℕ
unfolding times
minor_of a b c d = bit_xor (times a b) (times c d)

abbrev pub minors_of : List ℕ → Minors
minors_of t =
    record {
      one = minor_of (get_or t 1 0) (get_or t 1 0) (get_or t 0 0) (get_or t 2 0);
      sum = minor_of (get_or t 0 0) (get_or t 3 0) (get_or t 1 0) (get_or t 2 0);
      product = minor_of (get_or t 1 0) (get_or t 3 0) (get_or t 2 0) (get_or t 2 0);
    }

-- whether two places can make the numbers: then each number is the sum times the last plus the product times the last but one
unfoldable pub two_places : List ℕ → Minors → Bool
unfolding times
two_places t m = eqb (bit_xor (times (get_or t 4 0) m.one) (bit_xor (times (get_or t 3 0) m.sum) (times (get_or t 2 0) m.product))) 0

-- whether y can be one of the two: a root of y^2 + sum y + product
unfoldable pub may_be : Minors → ℕ → Bool
unfolding times
may_be m y = eqb (times y (bit_xor (times y m.one) m.sum)) m.product

-- a symbol at the place x of a word, as one number
pub record Single (x y n : ℕ) : Type 0 where
  pub fits : n < 2 ^ 60
  pub few : weight (digits 4 15 n) ≤ 1
  pub values : (j : ℕ) → at (a_to j) (digits 4 15 n) ≡ times y (power x j)

-- the symbols at three places x, y, z: that at z by a number u that is left when the others are taken away, then those at y and x
abbrev pub last_of : ℕ → ℕ → ℕ → ℕ → ℕ
last_of x y z u = times u (inverse_of (times z (times (bit_xor z x) (bit_xor z y))))

abbrev pub middle_of : ℕ → ℕ → ℕ → ℕ → ℕ → ℕ
middle_of x y z t c = times (bit_xor t (times c (times z (bit_xor z x)))) (inverse_of (times y (bit_xor y x)))

abbrev pub first_of : ℕ → ℕ → ℕ → ℕ → ℕ → ℕ → ℕ
first_of x y z s b c = times (bit_xor s (bit_xor (times c z) (times b y))) (inverse_of x)
