-- Numbers cut into digits of some bits each, the first digit highest: bytes have eight bits, symbols four.
-- Assumes nothing.
use Rattle.std.specs.Prelude.{List, [], ◌∷◌, ℕ, zero, suc, ◌+◌, ◌*◌, ◌/◌, ◌%◌, ◌^◌, length}

-- the lowest k digits of n, each of w bits
unfoldable pub digits : ℕ → ℕ → ℕ → List ℕ
digits w zero n = []
digits w (suc k) n = n / 2 ^ (w * k) % 2 ^ w ∷ digits w k n

-- the number that digits of w bits write
unfoldable pub number : ℕ → List ℕ → ℕ
number w [] = 0
number w (d ∷ ds) = d * 2 ^ (w * length ds) + number w ds
