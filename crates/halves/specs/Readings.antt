-- Readings of the radio board: numbers of IEEE 754's 32-bit format, in degrees (02, No. 1). A number is what its pattern stands for (`of_bits` of
-- `lib.Ieee`): -0 and +0 are equal, and no comparison with what is not a number holds.
-- Assumes nothing.
use Rattle.std.specs.Prelude.{Bool, true, ◌&&◌, List, [], ◌∷◌, ℕ, Float, pos}
use Rattle.std.specs.Float.{binary32}
use Rattle.std.specs.Float.Ieee.{of_int, neg, le}

-- so many whole degrees
abbrev pub degrees : ℕ → Float
degrees n = of_int binary32 (pos n)

-- a reading is a number from -45 to 45, the bounds included
unfoldable pub in_range : Float → Bool
in_range reading = le (neg (degrees 45)) reading && le reading (degrees 45)

-- a margin is one from 0 to 90
unfoldable pub is_margin : Float → Bool
is_margin margin = le (degrees 0) margin && le margin (degrees 90)

-- every reading is looked at, paired or not
unfoldable pub all_in_range : List Float → Bool
all_in_range [] = true
all_in_range (reading ∷ rest) = in_range reading && all_in_range rest
