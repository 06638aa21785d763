-- The CRC-8 by x^8 + x^2 + x + 1 from zero, highest bit first (02, No. 10; 002, 4).
-- Assumes nothing.
use Rattle.std.specs.Prelude.{List, [], ◌∷◌, ℕ, zero, suc, ◌*◌, ◌/◌, ◌%◌}
use Rattle.std.specs.Int.Bits.{bit_xor}

-- the register moves up one place; an x^8 that comes out is x^2 + x + 1
unfoldable pub crc_shift : ℕ → ℕ
crc_shift r = bit_xor (r * 2 % 256) (r / 128 * 7)

unfoldable pub crc_shifts : ℕ → ℕ → ℕ
unfolding crc_shift
crc_shifts zero r = r
crc_shifts (suc k) r = crc_shifts k (crc_shift r)

-- bytes through the register: each comes in at the top and moves up by eight places
unfoldable pub crc_from : ℕ → List ℕ → ℕ
unfolding crc_shifts
crc_from r [] = r
crc_from r (byte ∷ bytes) = crc_from (crc_shifts 8 (bit_xor r byte)) bytes

abbrev pub crc_of : List ℕ → ℕ
crc_of bytes = crc_from 0 bytes
