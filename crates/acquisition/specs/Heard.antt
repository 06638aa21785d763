-- What is heard of a run of undamaged blocks from any place on, and which of its windows have to be no good blocks (02, No. 13).
-- Assumes nothing.
use Rattle.std.specs.Prelude.{ℕ, ◌+◌, ◌-◌, ◌%◌, ◌≤◌, ◌<◌, true, false, List, ◌≡◌, length, drop}
use Rattle.block.specs.Read.{read_of}
use Rattle.detection.specs.Slips.{Message, sent, window}
use Rattle.locking.specs.Modes.{is_good}

-- some bits of the first block are left out: what is left of it is heard, and then whole blocks
abbrev pub heard_from : ℕ → List Message → List ℕ
heard_from left messages = drop left (sent messages)

-- how many bits come before the first whole block; none where no bit is left out
abbrev pub bits_before_block : ℕ → ℕ
bits_before_block left = (50 - left) % 50

-- the window that starts at this place of a string, if it lies wholly in it, is a good block, or is none
abbrev pub GoodAt : List ℕ → ℕ → Type 0
GoodAt bits start = start + 50 ≤ length bits → is_good (read_of (window bits start)) ≡ true

abbrev pub NotGoodAt : List ℕ → ℕ → Type 0
NotGoodAt bits start = start + 50 ≤ length bits → is_good (read_of (window bits start)) ≡ false

-- the request's condition: no window that lies wholly in what is heard, other than a whole block, is good
abbrev pub OnlyBlocks : ℕ → List Message → Type 0
OnlyBlocks left messages = (start : ℕ) → left ≤ start → (start % 50 ≡ 0 → ⊥) → NotGoodAt (sent messages) start

-- What has to be believed of it, for the windows that start from one place on and before another: those that start up to seven bits
-- after a block's start or up to six before one are no good blocks in any run (demand 3)
abbrev pub OnlyBlocksFar : ℕ → ℕ → List Message → Type 0
OnlyBlocksFar from to messages = (start : ℕ) → from ≤ start → start < to → 8 ≤ start % 50 → start % 50 ≤ 43 → NotGoodAt (sent messages) start
