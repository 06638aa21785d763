-- `log_all` meets its contract. The loop's invariant: what is kept now, with the bits that are left, comes to what is kept after all.
-- Assumes nothing.
use Rattle.std.proofs.Common.{◌≡◌, drop}
use Rattle.log_blocks.specs.Log.{kept_after}
use Rattle.log_blocks.proofs.log_all.Given as goal

abbrev pub invariant-loop-bit : goal.invariant-loop-bit
invariant-loop-bit g l = kept_after l.kept (drop l.bit-index l.bits) ≡ kept_after l.initial.kept l.bits
