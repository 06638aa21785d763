-- The blocks of a feed as they are sent, and how many of those that are left are damaged.
-- Assumes nothing.
use Rattle.std.specs.Prelude.{Bool, cond, List, map, ◌≡◌, ℕ, zero, suc, ◌+◌, ◌-◌, ◌/◌, ◌^◌, ◌≤◌, eqb, ltb, get_or, set, Option, Some, None, Result, Ok, Err}
use Rattle.std.specs.Int.Bits.{bit_xor}
use Rattle.block.specs.Block.{block_of}
use Rattle.record.specs.Editions.{filler}
use Rattle.record.specs.Words.{written_of}
use Rattle.record.specs.declared.Edition.{Edition}
use Rattle.record.specs.declared.Record.{Record}
use Rattle.transmit.specs.Chance.{stepped_of, drawn_of}
use Rattle.transmit.specs.declared.blocks.Left.{Left}

word_in : {E : Type 0} → Edition → Result ℕ E → ℕ
word_in edition (Ok word) = word
word_in edition (Err why) = filler edition

-- the word of a record; a filler where it cannot be written
unfoldable pub word_sent : Edition → Record → ℕ
unfolding written_of word_in
word_sent edition r = word_in edition (written_of r)

-- the next block is damaged where a number drawn below the blocks that are left is below those still to be damaged
unfoldable pub is_damaged : Left → Bool
is_damaged left = ltb (drawn_of (stepped_of left.chance) left.blocks) left.damaged

-- at which of its fifty places, if it is
unfoldable pub place_of : Left → Option ℕ
unfolding is_damaged
place_of left = cond (is_damaged left) (Some (drawn_of (stepped_of left.chance / 2 ^ 16) 50)) None

-- what is left after the next block
unfoldable pub after_of : Left → Left
unfolding is_damaged
after_of left =
    record {
      blocks = left.blocks - 1;
      damaged = cond (is_damaged left) (left.damaged - 1) left.damaged;
      chance = stepped_of left.chance;
    }

unfoldable pub after_blocks : ℕ → Left → Left
unfolding after_of
after_blocks zero left = left
after_blocks (suc k) left = after_blocks k (after_of left)

-- how many of the next k blocks are damaged
unfoldable pub damaged_in : ℕ → Left → ℕ
unfolding is_damaged after_of
damaged_in zero left = 0
damaged_in (suc k) left = cond (is_damaged left) 1 0 + damaged_in k (after_of left)

-- of the blocks that are left exactly as many are damaged as are still to be
abbrev pub ExactlyDamaged : Type 0
ExactlyDamaged = (left : Left) → left.damaged ≤ left.blocks → damaged_in left.blocks left ≡ left.damaged

-- the bit at a place exchanged; none where there is no such place
unfoldable pub exchanged_at : Option ℕ → List ℕ → List ℕ
exchanged_at (Some place) bits = set bits place (bit_xor (get_or bits place 0) 1)
exchanged_at None bits = bits

-- '0' and '1' are the bytes 48 and 49
unfoldable pub character_of : ℕ → ℕ
character_of bit = cond (eqb bit 0) 48 49

-- the next block as it is sent, of code 0
unfoldable pub block_sent : Left → ℕ → List ℕ
unfolding exchanged_at place_of block_of character_of
block_sent left word = map character_of (exchanged_at (place_of left) (block_of 0 word))

-- what is left after k blocks; only private contracts name this
abbrev pub Follows : ℕ → Left → Left → Type 0
Follows k start left = left ≡ after_blocks k start
