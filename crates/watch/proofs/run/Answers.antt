-- `run` meets its contract. The goals are named, so that a wrong refusal is refused at its own fact.
-- Assumes nothing.
use borrow.Author.Tests.{le-ltb, le-leb, lt-leb}
use Prim.Native.Nat.{◌+◌, ◌^◌}
use native.Mathlib.Omega.{arith}
use lib.ListN.{length}
use Rattle.watch.specs.Watches.{watched_of}
use Rattle.watch.proofs.run.Goals as goal

pub returns-then-watch-bits : goal.returns-then-watch-bits
unfolding watched_of
returns-then-watch-bits c =
    let start = c.args in
    rw (
      le-ltb 65536 (length start.bits.now) c.if-bits-gt65536.false,
      le-leb (2 ^ 64) (start.watch.fed + length start.bits.now) (omega arith),
      c.refused-then-watch-bits.ensures,
    )

pub returns-else-is_proper : goal.returns-else-is_proper
unfolding watched_of
returns-else-is_proper c =
    let start = c.args in
    rw (
      le-ltb 65536 (length start.bits.now) c.if-bits-gt65536.false,
      lt-leb (2 ^ 64) (start.watch.fed + length start.bits.now) (omega arith),
      ← c.is_proper.ensures,
      c.if-is_proper.false,
      c.refused-else-is_proper.ensures,
    )
