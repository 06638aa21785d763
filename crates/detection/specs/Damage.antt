-- Damage: a good block that is changed at some of its places is refused, for four kinds of change; and what it tells, for every change.
-- A block is refused before a record is looked for in it, so demand 3 knows no edition (02, No. 3).
-- Assumes nothing.
use Rattle.std.specs.Prelude.{Bool, cond, List, [], ◌∷◌, ◌⊎◌, ◌≡◌, ℕ, ◌+◌, ◌%◌, ◌<◌, ◌≤◌, eqb, length, get_or}
use Rattle.block.specs.Bits.{Bits, xors}
use Rattle.block.specs.Block.{Good, prefix_in}
use Rattle.block.specs.Division.{remainder}
use Rattle.block.specs.Read.{read_of, refusal_in, remainder_read}

-- Places are counted from 0, which is the prefix, to 49.
-- A pattern of changes e is a string of bits with a 1 at each place that is changed: s becomes `xors s e`, and its bits stay 0 or 1.
abbrev pub Changed : List ℕ → ℕ → Type 0
Changed e k = get_or e k 0 ≡ 1

-- how many bits are changed
abbrev pub weight : List ℕ → ℕ
weight [] = 0
weight (b ∷ bs) = b + weight bs

-- a pattern for a block: fifty places, at least one of them changed
pub record Pattern (e : List ℕ) : Type 0 where
  pub size : length e ≡ 50
  pub bits : Bits e
  pub some : 1 ≤ weight e

-- k is one of n neighbouring places, of which a is the first
pub record Among (a n k : ℕ) : Type 0 where
  pub from : a ≤ k
  pub to : k < a + n

-- The kinds of damage that are always found: one, two or three bits, or any odd number, or bits within thirteen neighbouring
-- places, or two groups each within two neighbouring places. The groups may touch or overlap, and may hang over the end.
pub data Damage (e : List ℕ) : Type 0 where
  -- one, two or three bits
  few : weight e ≤ 3 → Damage e
  -- any odd number
  odd : weight e % 2 ≡ 1 → Damage e
  -- bits within thirteen neighbouring places, from a on
  burst : (a : ℕ) → ((k : ℕ) → Changed e k → Among a 13 k) → Damage e
  -- two groups each within two neighbouring places, from a on and from b on
  groups : (a b : ℕ) → ((k : ℕ) → Changed e k → Among a 2 k ⊎ Among b 2 k) → Damage e

-- the number that fifty bits are refused with: 3 where their prefix is wrong, 4 otherwise (01, "Numbers given when something is refused")
abbrev pub refused_with : Bool → ℕ
refused_with prefixWrong = cond prefixWrong 3 4

-- Every good block s with every such damage e is refused: with 3 where the prefix changed, with 4 otherwise.
abbrev pub DamageRefused : Type 0
DamageRefused = (s e : List ℕ) → Good s → Pattern e → Damage e → refusal_in (read_of (xors s e)) ≡ refused_with (eqb (prefix_in e) 1)

-- What a changed block tells is the remainder of the changes alone, whatever the block says (02, No. 7): so a table of faults can be
-- kept. Where the prefix changed it is refused with 3 and tells nothing.
abbrev pub DamageTold : Type 0
DamageTold = (s e : List ℕ) → Good s → Pattern e → remainder_read (read_of (xors s e)) ≡ cond (eqb (prefix_in e) 1) 0 (remainder e)
