-- Characters of the input, and the bits that they are (01, "The receiver program").
-- Assumes nothing.
use Rattle.std.specs.Prelude.{ℕ, Bool, true, false, cond, List, [], ◌∷◌, ◌≡◌, eqb}
use Rattle.input.specs.declared.Piece.{Piece}

-- the characters that mean something: 0, 1 and newline
abbrev pub nought : ℕ
nought = 48

abbrev pub one : ℕ
one = 49

abbrev pub newline : ℕ
newline = 10

-- the bits that characters are, and whether the input goes on behind them
pub record Meant : Type 0 where
  pub bits : List ℕ
  pub goes_on : Bool

abbrev pub before : ℕ → Meant → Meant
before b m = record { bits = b ∷ m.bits; goes_on = m.goes_on }

-- 0 and 1 are bits, a newline is skipped, anything else ends the input
unfoldable pub meant : List ℕ → Meant
meant [] = record { bits = []; goes_on = true }
meant (c ∷ cs) =
    cond (eqb c newline) (meant cs)
    (cond (eqb c nought) (before 0 (meant cs)) (cond (eqb c one) (before 1 (meant cs)) (record { bits = []; goes_on = false })))

-- what was picked from characters: their bits, and whether the input goes on behind them
pub record Picks (characters : List ℕ) (p : Piece) : Type 0 where
  pub bits : p.bits.now ≡ (meant characters).bits
  pub more : p.more ≡ (meant characters).goes_on
