-- Where mending's promise ends: bursts of seven. One is mended to another block than was sent, and one is refused.
-- Assumes nothing.
use Rattle.std.specs.Prelude.{List, ◌≡◌, ℕ, Err}
use Rattle.refusal.specs.declared.Refusal.TheVariants.{NoSuchChange}
use Rattle.block.specs.Bits.{xors}
use Rattle.block.specs.Block.{Good}
use Rattle.mending.specs.Changes.{Burst}
use Rattle.mending.specs.Mending.{Mends, tells}

-- a good block and a burst of seven; what is sent and what is received. That six places do not hold the burst follows from `BurstsMended`
pub record Seven : Type 0 where
  pub sent : List ℕ
  pub good : Good sent
  pub changes : List ℕ
  pub burst : Burst 7 changes

abbrev pub received : Seven → List ℕ
received seven = xors seven.sent seven.changes

pub record SevenMendedWrongly : Type 0 where
  pub seven : Seven
  pub after : List ℕ
  pub place : ℕ
  pub pattern : ℕ
  pub mends : Mends (received seven) (tells place pattern) after
  pub other : after ≡ seven.sent → ⊥

pub record SevenRefused : Type 0 where
  pub seven : Seven
  pub refused : Mends (received seven) (Err NoSuchChange) (received seven)
