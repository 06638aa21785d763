-- The changes that mending may make: some places, all of them within six neighbouring ones (02, No. 8).
-- A set of changes is a string of fifty bits with a 1 at each place that is changed, as in `Damage` of detection.
-- Assumes nothing.
use Rattle.std.specs.Prelude.{List, ◌++◌, ℕ, ◌≤◌, take, drop}
use Rattle.block.specs.Bits.{value, xors, zeros}
use Rattle.block.specs.Block.{Good}
use Rattle.detection.specs.Damage.{Pattern, Changed, Among}

-- all changes lie within n neighbouring places, of which the first is named; the last of these places may lie past the end
pub record Within (n : ℕ) (e : List ℕ) : Type 0 where
  pub first : ℕ
  pub among : (k : ℕ) → Changed e k → Among first n k

-- a burst of up to n places: some change, and all within n neighbouring places
pub record Burst (n : ℕ) (e : List ℕ) : Type 0 where
  pub pattern : Pattern e
  pub within : Within n e

-- a change within six neighbouring places that makes s good, the prefix too
pub record Makes (s e : List ℕ) : Type 0 where
  pub burst : Burst 6 e
  pub good : Good (xors s e)

-- k is the first changed place, counted from 0
pub record First (e : List ℕ) (k : ℕ) : Type 0 where
  pub changed : Changed e k
  pub least : (j : ℕ) → Changed e j → k ≤ j

-- the pattern of the six places from k, the first highest, 0 past the end
abbrev pub six_from : ℕ → List ℕ → ℕ
six_from k e = value (take 6 (drop k (e ++ zeros 5)))
