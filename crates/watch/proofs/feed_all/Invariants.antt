-- `feed_all` meets its contract. The loop's invariant: what is left from here, behind what was counted, gives the whole run; and what was
-- counted balances with the bits fed, so that the counts stay small.
-- Assumes nothing.
use mathlib.Core.Bool.{true}
use mathlib.Core.Path.{◌≡◌}
use Prim.Native.Nat.{◌+◌, ◌≤◌}
use lib.ListN.{length}
use Rattle.receiver.specs.Runs.{blocks_in}
use Rattle.receiver.proofs.Balance.{MadeUp}
use Rattle.watch.specs.Watches.{watch_proper, watched_from}
use Rattle.watch.proofs.Turns.{behind}
use Rattle.watch.proofs.feed_all.Given as goal

abbrev pub invariant-loop-rest : goal.invariant-loop-rest
invariant-loop-rest l =
    record {
      proper : watch_proper l.edition l.watch ≡ true;
      few : length l.rest ≤ 65536;
      fed : l.watch.fed + length l.rest ≡ l.initial.watch.fed + length l.bits;
      sound : l.counts.refusal ≡ 0;
      waiting : l.counts.waiting ≡ l.watch.state.waiting;
      made : MadeUp (l.initial.watch.state.waiting + length l.bits) (blocks_in l.counts) (l.counts.passed + length l.rest) l.watch.state.waiting;
      whole : behind l.counts (watched_from l.edition l.watch l.rest) ≡ watched_from l.edition l.initial.watch l.bits;
    }

abbrev pub decreases-loop-rest : goal.decreases-loop-rest
decreases-loop-rest l = length l.rest
