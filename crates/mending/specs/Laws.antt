-- What holds of mending (02, No. 8).
-- Assumes nothing.
use Rattle.refusal.specs.declared.Refusal.{Refusal}
use Rattle.std.specs.Prelude.{List, ◌++◌, ◌≡◌, ℕ, ◌-◌, Result, Err, eqb, take}
use Rattle.refusal.specs.declared.Refusal.TheVariants.{NoSuchChange, SeveralChanges}
use Rattle.block.specs.Bits.{bits_of, xors, zeros}
use Rattle.block.specs.Block.{Good, prefix_in}
use Rattle.block.specs.Division.{remainder}
use Rattle.block.specs.Read.{read_of, refusal_in}
use Rattle.detection.specs.Damage.{Changed, Among, Pattern, weight, refused_with}
use Rattle.detection.specs.Slips.{IsRefused}
use Rattle.mending.specs.Changes.{Within, Burst, First, six_from}
use Rattle.mending.specs.Mending.{Mends, tells}
use Rattle.mending.specs.declared.Change.{Change}

-- no two bursts of six leave the same, and none leaves nothing
pub record BurstsDiffer : Type 0 where
  pub same : (d e : List ℕ) → Burst 6 d → Burst 6 e → remainder d ≡ remainder e → d ≡ e
  pub some : (e : List ℕ) → Burst 6 e → remainder e ≡ 0 → ⊥

-- so 16 never comes, whatever the bytes are
abbrev pub NeverSeveral : Type 0
NeverSeveral = (s after : List ℕ) → Mends s (Err SeveralChanges) after → ⊥

-- what mending may answer and leave is one thing alone
abbrev pub Once : Type 0
Once = (s : List ℕ) (x y : Result Change Refusal) (t u : List ℕ) → Mends s x t → Mends s y u → (x ≡ y) × (t ≡ u)

-- The changes e of a block s are found and taken back: the reader refuses the changed block, and mending tells the first changed place and
-- the six places from it and leaves what was sent.
pub record MendedBack (s e : List ℕ) : Type 0 where
  pub refused : refusal_in (read_of (xors s e)) ≡ refused_with (eqb (prefix_in e) 1)
  pub place : ℕ
  pub first : First e place
  pub mends : Mends (xors s e) (tells place (six_from place e)) s

-- The report's claim that the code puts right every burst of up to six places (BBC RD 1984/19, 5.3): in every good block, whether the
-- burst leaves the prefix or changes it.
abbrev pub BurstsMended : Type 0
BurstsMended = (s e : List ℕ) → Good s → Burst 6 e → MendedBack s e

-- so of the damage that demand 3 refuses, every single bit and every two neighbouring bits
abbrev pub SingleMended : Type 0
SingleMended = (s e : List ℕ) → Good s → Pattern e → weight e ≡ 1 → MendedBack s e

abbrev pub NeighboursMended : Type 0
NeighboursMended = (s e : List ℕ) (a : ℕ) → Good s → Pattern e → ((k : ℕ) → Changed e k → Among a 2 k) → MendedBack s e

-- Two bursts of six in a good block, which may touch or overlap, are always refused, but where the one takes the other back.
abbrev pub TwoBurstsRefused : Type 0
TwoBurstsRefused = (s d e : List ℕ) → Good s → Burst 6 d → Burst 6 e → (d ≡ e → ⊥) → IsRefused (xors (xors s d) e)

-- the changes that a place and a pattern tell: six bits from the place, as far as the block goes
abbrev pub changes_of : ℕ → ℕ → List ℕ
changes_of place pattern = take 50 (zeros place ++ (bits_of 6 pattern ++ zeros (49 - place)))

-- A block that is handed back, mended or good before: it is good and within six places of what came, no other block is, and place and
-- pattern are exactly the difference. Mended again it is not touched.
pub record HandedBack (s after : List ℕ) (place pattern : ℕ) : Type 0 where
  pub good : Good after
  pub near : Within 6 (xors s after)
  pub only : (t : List ℕ) → Good t → Within 6 (xors s t) → t ≡ after
  pub difference : xors s after ≡ changes_of place pattern
  pub again : Mends after (tells 0 0) after

abbrev pub BlocksHandedBack : Type 0
BlocksHandedBack = (s after : List ℕ) (place pattern : ℕ) → Mends s (tells place pattern) after → HandedBack s after place pattern

-- what is refused with 15 stays, and no good block is within six places of it
abbrev pub NoneNear : Type 0
NoneNear = (s after : List ℕ) → Mends s (Err NoSuchChange) after → (after ≡ s) × ((t : List ℕ) → Good t → Within 6 (xors s t) → ⊥)
