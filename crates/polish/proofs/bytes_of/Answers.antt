-- `bytes_of` meets its contract: the bytes are those of the body, of the check symbols and the CRC.
-- Assumes nothing.
use Rattle.polish.proofs.Parts.{frame_bytes}
use Rattle.polish.proofs.bytes_of.Goals as goal

pub returns : goal.returns
returns c =
    rw (c.to_be_bytes.ensures, c.to_be_bytes-2.ensures) (frame_bytes c.args.body c.checks.result c.crc.result c.checks.ensures.small c.checks.ensures.are c.crc.ensures)
