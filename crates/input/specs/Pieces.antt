-- A piece of the input, read into a buffer (01, "The receiver program"). No contract can say which characters were read.
-- Assumes nothing.
use Rattle.std.specs.Prelude.{ℕ, List, ◌≤◌, length}
use Rattle.block.specs.Bits.{Bits}
use Rattle.input.specs.declared.Piece.{Piece}

-- whatever was read: it has no more bits than the buffer has places, and bits they are
pub record Reads (entry : List ℕ) (p : Piece) : Type 0 where
  pub size : length p.bits.now ≤ length entry
  pub bits : Bits p.bits.now
