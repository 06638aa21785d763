-- `number_of` meets its contract. The loop's invariant: the total is the number of the bytes that were passed, as far as it is kept.
-- Assumes nothing.
use Rattle.std.proofs.Common.{◌≡◌, ◌%◌, ◌^◌, take}
use Rattle.big_endian.specs.Digits.{number}
use Rattle.big_endian.proofs.number_of.Given as goal

abbrev pub invariant-loop-byte : goal.invariant-loop-byte
invariant-loop-byte l = l.total ≡ number 8 (take l.byte-index l.bytes) % 2 ^ 64
