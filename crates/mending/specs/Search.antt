-- How the change is found. Only private contracts name these; what is found is said by `Mends`.
-- Assumes nothing.
use Rattle.std.specs.Prelude.{◌≡◌, ℕ, ◌<◌, ◌≤◌, ◌*◌, ◌-◌, ◌^◌}
use Rattle.block.specs.Bits.{zeros}
use Rattle.block.specs.Division.{remainder_from}

-- r holds what was left, turned back n times, as often as it took until six places were enough, and at most up to the first six
pub record TurnedBack (left r n : ℕ) : Type 0 where
  pub forth : remainder_from r (zeros n) ≡ left
  pub small : r < 8192
  pub inside : n ≤ 44
  pub filled : 0 < n → 32 ≤ r
  pub earlier : (m : ℕ) → m < n → (w : ℕ) → w < 64 → remainder_from w (zeros m) ≡ left → ⊥
  pub last : 64 ≤ r → n ≡ 44

-- the changed places of a block as one number m, told as their first place and the pattern of the six from it
pub record FromFirst (m place pattern : ℕ) : Type 0 where
  pub is : pattern * 2 ^ (49 - place) ≡ m * 32
  pub inside : place ≤ 49
  pub high : 32 ≤ pattern
  pub low : pattern < 64
