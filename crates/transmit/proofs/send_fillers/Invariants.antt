-- `send_fillers` meets its contract. The loop's invariant: what is left is left after as many blocks as were counted.
-- Assumes nothing.
use Rattle.transmit.specs.Blocks.{Follows}
use Rattle.transmit.proofs.send_fillers.Given as goal

abbrev pub invariant-loop : goal.invariant-loop
invariant-loop g l = Follows l.counter l.fn.start l.left
