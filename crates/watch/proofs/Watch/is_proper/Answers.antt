-- `Watch::is_proper` meets its contract. The goal is named, so that a wrong test is refused at its own fact.
-- Assumes nothing.
use Rattle.watch.specs.Watches.{watch_proper}
use Rattle.watch.proofs.Watch.is_proper.Goals as goal

pub returns-then-none_unless : goal.returns-then-none_unless
unfolding watch_proper
returns-then-none_unless c =
    rw (
      ← c.is_proper.ensures,
      c.if-not-is_proper.false,
      ← c.none_ahead.ensures,
      c.if-not-none_ahead.false,
      ← c.none_unless.ensures,
      c.if-none_unless.true,
      c.none_unless-then-none_unless.ensures,
    )
