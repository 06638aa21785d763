-- `feed_back` meets its contract: an x^13 has come up, or it has not.
-- Assumes nothing.
use mathlib.Core.Path.{◌≡◌}
use Prim.Native.Nat.{◌*◌, ◌%◌, ◌^◌}
use native.Mathlib.Omega.{arith}
use lib.Pow.{shl_exact}
use Rattle.block.specs.Division.{generator}
use Rattle.block.proofs.Along.{not_fed, fed}
use Rattle.block.proofs.circuit.feed_back.Goals as goal

pub returns-then-fed-moved : goal.returns-then-fed-moved
returns-then-fed-moved c =
    let moved_up : generator * 2 ^ c.args.behind % 2 ^ 64 ≡ generator * 2 ^ c.args.behind = shl_exact {a = generator} 14 c.args.behind 64 (omega arith) (omega arith) in
    rw moved_up (fed c.args.behind c.args.moved c.requires.1 (rw moved_up at c.if-fed-moved.true))

pub returns-else-fed-moved : goal.returns-else-fed-moved
returns-else-fed-moved c =
    let moved_up : generator * 2 ^ c.args.behind % 2 ^ 64 ≡ generator * 2 ^ c.args.behind = shl_exact {a = generator} 14 c.args.behind 64 (omega arith) (omega arith) in
    not_fed c.args.behind c.args.moved c.requires.1 (rw moved_up at c.if-fed-moved.false)
