-- `characters` meets its contract. The loop's invariant: the characters that were stored are those of the bits.
-- Assumes nothing.
use Rattle.std.proofs.Common.{◌≡◌, take, map}
use Rattle.transmit.specs.Blocks.{character_of}
use Rattle.transmit.proofs.blocks.characters.Given as goal

abbrev pub invariant-loop-i : goal.invariant-loop-i
invariant-loop-i l = take l.i l.place-items ≡ take l.i (map character_of l.bits)
