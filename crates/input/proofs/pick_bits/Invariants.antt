-- `pick_bits` meets its contract. The loop's invariant: what was picked and what is not yet read mean what all of it means.
-- Assumes nothing.
use Rattle.input.proofs.Picking.{Picking}
use Rattle.input.proofs.pick_bits.Given as goal

abbrev pub invariant-loop-i : goal.invariant-loop-i
invariant-loop-i l = Picking l.fn.characters l.characters l.bits l.i
