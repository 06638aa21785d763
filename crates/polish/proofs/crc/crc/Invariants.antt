-- `crc` meets its contract. The loop's invariant: the bytes that are left bring the register to the CRC.
-- Assumes nothing.
use Rattle.std.proofs.Common.{◌≡◌, drop}
use Rattle.polish.specs.Crc.{crc_from}
use Rattle.polish.specs.Frame.{crc_of_body}
use Rattle.polish.proofs.crc.crc.Given as goal

abbrev pub invariant-loop-byte : goal.invariant-loop-byte
invariant-loop-byte l = crc_from l.register (drop l.byte-index l.byte-items) ≡ crc_of_body l.body
