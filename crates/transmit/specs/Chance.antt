-- Chance that comes the same way again from the same seed: a state of 64 bits, moved on by three shifts.
-- Assumes nothing.
use Rattle.std.specs.Prelude.{cond, ℕ, ◌+◌, ◌*◌, ◌/◌, ◌-◌, ◌%◌, ◌^◌, eqb}
use Rattle.std.specs.Int.Bits.{bit_xor}

-- never 0, where chance would stay
abbrev pub seeded : ℕ → ℕ
seeded seed = seed + 0x9e3779b97f4a7c15

-- a state of 64 bits with itself moved up by some places added without carry; what leaves at the top is lost
unfoldable pub up : ℕ → ℕ → ℕ
up places s = bit_xor s (s % 2 ^ (64 - places) * 2 ^ places)

unfoldable pub down : ℕ → ℕ → ℕ
down places s = bit_xor s (s / 2 ^ places)

-- 13 up, 7 down, 17 up
unfoldable pub stepped_of : ℕ → ℕ
stepped_of s = up 17 (down 7 (up 13 s))

-- a number below a bound, from the upper half of the state; 0 where nothing is below it
unfoldable pub drawn_of : ℕ → ℕ → ℕ
drawn_of s bound = cond (eqb bound 0) 0 (s / 2 ^ 32 % bound)
