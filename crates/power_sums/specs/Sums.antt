-- Power sums (02, No. 10): the values of a word at successive powers of a. A symbol that stands alone at the place x makes each of them x times the
-- one before; so places that are taken away one after the other leave fewer and fewer, and zeros at last.
-- Assumes nothing.
use Rattle.std.specs.Prelude.{Bool, true, cond, ◌&&◌, ◌||◌, not, List, [], ◌∷◌, ℕ, zero, suc, eqb, get_or}
use Rattle.std.specs.Int.Bits.{bit_xor}
use Rattle.field16.specs.Field.{times, inverse_of}
use Rattle.field16.specs.Words.{a_to, at}

-- the power sums of a word: its values at k successive powers of a from the n-th on
unfoldable pub sums_from : ℕ → ℕ → List ℕ → List ℕ
unfolding at
sums_from n zero word = []
sums_from n (suc k) word = at (a_to n) word ∷ sums_from (suc n) k word

abbrev pub six_sums : List ℕ → List ℕ
six_sums word = sums_from 1 6 word

-- the place x taken away from power sums: each is added to the next, times x; one fewer is left
unfoldable pub take_away : ℕ → List ℕ → List ℕ
unfolding times
take_away x [] = []
take_away x (s ∷ []) = []
take_away x (s ∷ t ∷ ts) = bit_xor t (times x s) ∷ take_away x (t ∷ ts)

-- each number is x times the one before
unfoldable pub goes_on : ℕ → List ℕ → Bool
unfolding times
goes_on x [] = true
goes_on x (s ∷ []) = true
goes_on x (s ∷ t ∷ ts) = eqb t (times x s) && goes_on x (t ∷ ts)

-- the place whose powers these numbers may be
unfoldable pub third_of : List ℕ → ℕ
unfolding times inverse_of
third_of u = cond (eqb (get_or u 0 0) 0) 1 (times (get_or u 1 0) (inverse_of (get_or u 0 0)))

-- a place is none of two others, and not 0
abbrev pub apart : ℕ → ℕ → ℕ → Bool
apart x y z = not (eqb x 0) && (not (eqb x y) && not (eqb x z))

-- what is left after two places are taken away: zeros, or the powers of a third place
unfoldable pub fits : ℕ → ℕ → List ℕ → Bool
unfolding goes_on third_of
fits x y u = goes_on (third_of u) u && (eqb (get_or u 0 0) 0 || apart (third_of u) x y)
