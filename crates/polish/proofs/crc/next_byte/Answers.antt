-- `next_byte` meets its contract: the sum of register and byte is below 256, and the machine's step is right at each such number.
-- Assumes nothing.
use Rattle.std.proofs.Common.{ap, ◌∙◌, arith}
use lib.Bits.{xor_lt}
use Rattle.polish.specs.Crc.{crc_shifts}
use Rattle.polish.proofs.Register.{moved_right}
use Rattle.polish.proofs.crc.next_byte.Goals as goal

pub returns : goal.returns
returns c =
    (moved_right c.from-sum.result (omega (arith, xor_lt 8 c.args.register c.args.byte (omega arith) (omega arith)))).1 ∙ ap (crc_shifts 8) c.from-sum.ensures
