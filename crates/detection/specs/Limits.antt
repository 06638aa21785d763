-- Where the promises end: one step past a limit something is taken, shown by one witness each. The limits are those of few bits, of a
-- burst, and of a slip to either side; the last witness is a message that need only be repeated. The two groups have no witness here.
-- Assumes nothing.
use Rattle.std.specs.Prelude.{List, [], ◌∷◌, ◌≡◌, ℕ, ◌+◌, ◌*◌, ◌<◌, ◌≤◌, replicate}
use Rattle.block.specs.Bits.{xors}
use Rattle.block.specs.Block.{Good}
use Rattle.block.specs.Read.{carried, read_of}
use Rattle.detection.specs.Damage.{Pattern, Changed, Among, weight}
use Rattle.detection.specs.Slips.{Message, sent, window}

-- the bits are taken as a block
pub record Taken (s : List ℕ) : Type 0 where
  pub code : ℕ
  pub word : ℕ
  pub reads : read_of s ≡ carried code word

-- a change of four bits of a good block that is taken
pub record FourTaken : Type 0 where
  pub block : List ℕ
  pub good : Good block
  pub changes : List ℕ
  pub pattern : Pattern changes
  pub four : weight changes ≡ 4
  pub taken : Taken (xors block changes)

-- a change of a good block within fourteen neighbouring places that is taken
pub record FourteenTaken : Type 0 where
  pub block : List ℕ
  pub good : Good block
  pub changes : List ℕ
  pub pattern : Pattern changes
  pub first : ℕ
  pub fourteen : (k : ℕ) → Changed changes k → Among first 14 k
  pub taken : Taken (xors block changes)

-- two messages, and a window eight bits after the first one's start that is taken
pub record EightAfterTaken : Type 0 where
  pub one : Message
  pub two : Message
  pub taken : Taken (window (sent (one ∷ two ∷ [])) 8)

-- two messages, and a window seven bits before the second one's start that is taken
pub record SevenBeforeTaken : Type 0 where
  pub one : Message
  pub two : Message
  pub taken : Taken (window (sent (one ∷ two ∷ [])) 43)

-- A message that holds a false lock for ever: however often it is repeated, the window that starts `slip` bits after a block's
-- start, where no block starts, is taken.
pub record FalseLock : Type 0 where
  pub message : Message
  pub slip : ℕ
  pub inside : (1 ≤ slip) × (slip < 50)
  pub taken : (n : ℕ) → Taken (window (sent (replicate (n + 2) message)) (50 * n + slip))
