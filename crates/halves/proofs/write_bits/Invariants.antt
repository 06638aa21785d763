-- `write_bits` meets its contract. The loop's invariant: the bits written are those that are asked.
-- Assumes nothing.
use Rattle.std.proofs.Common.{◌≡◌, ℕ, ◌<◌, get_or}
use Rattle.halves.specs.Decision.{bits_of}
use Rattle.halves.specs.Pairs.{pairs_of}
use Rattle.halves.proofs.write_bits.Given as goal

abbrev pub invariant-loop-n : goal.invariant-loop-n
invariant-loop-n l = (k : ℕ) → k < l.n → get_or l.bits k 0 ≡ get_or (bits_of l.polarity l.margin (pairs_of l.readings)) k 0
