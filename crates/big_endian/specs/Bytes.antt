-- Bytes as a number, the first highest.
-- Assumes nothing.
use Rattle.std.specs.Prelude.{cond, List, ◌≡◌, ℕ, ◌+◌, ◌*◌, ◌%◌, ◌^◌, ◌<◌, leb, length, take, drop}
use Rattle.big_endian.specs.Digits.{number}

-- one byte more below what is kept of a number; only private contracts name this
abbrev pub kept_behind : ℕ → ℕ → ℕ
kept_behind n byte = n % 2 ^ 56 * 256 + byte

-- n is the number that the bytes write, of which 64 bits are kept; each byte has eight bits, so that eight of them fit
pub record Told (bytes : List ℕ) (n : ℕ) : Type 0 where
  pub kept : n ≡ number 8 bytes % 2 ^ 64
  pub fits : number 8 bytes < 2 ^ (8 * length bytes)

-- the number in the eight bytes from a place on, 0 where there are no eight
unfoldable pub number_at : List ℕ → ℕ → ℕ
number_at s at = cond (leb (at + 8) (length s)) (number 8 (take 8 (drop at s))) 0
