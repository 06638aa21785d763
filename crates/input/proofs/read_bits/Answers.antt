-- `read_bits` meets its contract: what was picked are bits, whatever was read.
-- Assumes nothing.
use Rattle.std.proofs.Common.{arith, length-take}
use Rattle.input.proofs.Picking.{reads_picked}
use Rattle.input.proofs.read_bits.Goals as goal

pub returns-in-Ok : goal.returns-in-Ok
returns-in-Ok g c =
    let r = reads_picked _ _ _ c.pick_bits.ensures (omega (arith, length-take c.in-Ok.n c.read.new.buf)) in
    record { size = r.size; bits = r.bits }
