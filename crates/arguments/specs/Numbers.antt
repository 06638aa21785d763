-- Numbers as a user writes them, in digits. A text is a list of bytes.
-- Assumes nothing.
use Rattle.std.specs.Prelude.{Bool, true, cond, ◌&&◌, List, [], ◌∷◌, ℕ, ◌+◌, ◌*◌, ◌-◌, leb, Option, None, Some}

-- '0' to '9' are the bytes 48 to 57
unfoldable pub is_digit : ℕ → Bool
is_digit c = leb 48 c && leb c 57

unfoldable pub are_digits : List ℕ → Bool
unfolding is_digit
are_digits [] = true
are_digits (c ∷ cs) = is_digit c && are_digits cs

-- the number n with digits written behind it
unfoldable pub behind : ℕ → List ℕ → ℕ
behind n [] = n
behind n (c ∷ cs) = behind (n * 10 + (c - 48)) cs

-- the same, or none where one of the characters is no digit or the number is above 9,999,999
unfoldable pub number_behind : ℕ → List ℕ → Option ℕ
unfolding are_digits behind
number_behind n text = cond (are_digits text && leb (behind n text) 9999999) (Some (behind n text)) None

-- the number that a text writes; an empty one writes none
unfoldable pub number_of : List ℕ → Option ℕ
unfolding number_behind
number_of [] = None
number_of (c ∷ cs) = number_behind 0 (c ∷ cs)
