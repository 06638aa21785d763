-- What a pair says, and the bit that goes on (02, No. 1).
-- Assumes nothing.
use Rattle.std.specs.Prelude.{Bool, false, cond, ◌||◌, List, ℕ, Float, map}
use Rattle.std.specs.Float.{nan, inf, fin, binary32}
use Rattle.std.specs.Float.Ieee.{sub, lt, eq}
use Rattle.halves.specs.declared.Pair.{Pair}
use Rattle.halves.specs.declared.Polarity.{Polarity}
use Rattle.halves.specs.declared.Polarity.TheVariants.{AsItStands, Exchanged}

-- a number without its sign
unfoldable pub magnitude : Float → Float
magnitude nan = nan
magnitude (inf s) = inf false
magnitude (fin s m e) = fin false m e

-- the halves are equal, or their exact difference, rounded once to 32 bits, is less than the margin
unfoldable pub doubtful : Float → Pair → Bool
doubtful margin p = eq p.first p.second || lt (magnitude (sub binary32 p.first p.second)) margin

-- what a pair says: doubtful before all else, then 1 when the first half is greater, and 0 when it is less, which is all that is left
pub data Decision : Type 0 where
  one zero unsure : Decision

unfoldable pub decision_of : Float → Pair → Decision
decision_of margin p = cond (doubtful margin p) unsure (cond (lt p.second p.first) one zero)

-- the polarity exchanges 0 and 1; a doubtful bit goes on as 0 under either
abbrev pub bit_of : Polarity → Decision → ℕ
bit_of polarity unsure = 0
bit_of AsItStands one = 1
bit_of AsItStands zero = 0
bit_of Exchanged one = 0
bit_of Exchanged zero = 1

unfoldable pub bits_of : Polarity → Float → List Pair → List ℕ
bits_of polarity margin ps = map (λ p. bit_of polarity (decision_of margin p)) ps
