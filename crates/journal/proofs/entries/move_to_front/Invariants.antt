-- `move_to_front` meets its contract. The loop's invariant: what was moved, with what is left, makes up the whole.
-- Assumes nothing.
use Rattle.std.proofs.Common.{◌+◌, ◌-◌, ◌*◌}
use Rattle.journal.proofs.Moving.{Moved}
use Rattle.journal.proofs.entries.move_to_front.Given as goal

abbrev pub invariant-loop-place : goal.invariant-loop-place
invariant-loop-place l = Moved l.initial.journal l.wanted.first l.wanted.count l.journal (l.wanted.first + 16 * l.place) (16 * l.place) (l.wanted.count - l.place)
