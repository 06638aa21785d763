-- `feed_all` meets its contract. The loop's invariant: what is kept now, with the bits that are left, comes to what is kept after
-- all of them.
-- Assumes nothing.
use Rattle.std.proofs.Common.{◌≡◌, ◌≤◌, true, length}
use Rattle.block.specs.Bits.{Bits}
use Rattle.receiver.specs.Packed.{packed_proper}
use Rattle.receive.specs.Totals.{edition, kept_after}
use Rattle.receive.proofs.feed_all.Given as goal

abbrev pub invariant-loop-rest : goal.invariant-loop-rest
invariant-loop-rest g l =
    record {
      proper : packed_proper edition l.kept.state ≡ true;
      bits : Bits l.rest;
      few : length l.rest ≤ 65536;
      whole : kept_after l.kept l.rest ≡ kept_after l.initial.kept l.bits;
    }

abbrev pub decreases-loop-rest : goal.decreases-loop-rest
decreases-loop-rest g l = length l.rest
