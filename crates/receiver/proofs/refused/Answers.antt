-- `refused` meets its contract: nothing is counted but the refusal.
-- Assumes nothing.
use borrow.Author.Rules.{rules}
use mathlib.Core.Path.{◌≡◌}
use Rattle.locking.specs.Modes.{no_blocks}
use Rattle.receiver.specs.Runs.{counts_of}
use Rattle.receiver.proofs.refused.Goals as goal

pub returns : goal.returns
returns g c = let zero : c.default.result ≡ counts_of 0 no_blocks 0 0 = search rules in rw (c.from.ensures, zero)
