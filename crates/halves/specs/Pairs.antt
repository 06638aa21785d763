-- Readings in pairs, and which of the two pairings is taken (02, No. 1).
-- Assumes nothing.
use Rattle.std.specs.Prelude.{Bool, ◌&&◌, ◌||◌, List, [], ◌∷◌, ℕ, Float, get_or, take, drop, count_by}
use Rattle.std.specs.Float.{nan}
use Rattle.std.specs.Float.Ieee.{lt}
use Rattle.halves.specs.Readings.{degrees}
use Rattle.halves.specs.declared.Pair.{Pair}
use Rattle.halves.specs.declared.Pairing.{Pairing}
use Rattle.halves.specs.declared.Pairing.TheVariants.{FromFirst, FromSecond}

-- each two readings are a first and a second half; one that is left over gives none
unfoldable pub pairs_of : List Float → List Pair
pairs_of [] = []
pairs_of (x ∷ []) = []
pairs_of (x ∷ y ∷ rest) = record { first = x; second = y } ∷ pairs_of rest

-- the pair that the first two make
abbrev pub pair_of : List Float → Pair
pair_of readings = record { first = get_or readings 0 nan; second = get_or readings 1 nan }

-- one half is above zero and the other below it; zero has no sign
unfoldable pub opposite : Pair → Bool
opposite p = (lt (degrees 0) p.first && lt p.second (degrees 0)) || (lt p.first (degrees 0) && lt (degrees 0) p.second)

-- how many pairs are so
unfoldable pub count_opposite : List Float → ℕ
count_opposite readings = count_by opposite (pairs_of readings)

-- how many readings stand before the first pair
abbrev pub start_of : Pairing → ℕ
start_of FromFirst = 0
start_of FromSecond = 1

-- Over the first 64 readings the two pairings have 32 pairs and 31.
abbrev pub paired : Pairing → List Float → List Pair
paired pairing readings = pairs_of (drop (start_of pairing) readings)

abbrev pub opposite_under : Pairing → List Float → ℕ
opposite_under pairing readings = count_opposite (drop (start_of pairing) (take 64 readings))
