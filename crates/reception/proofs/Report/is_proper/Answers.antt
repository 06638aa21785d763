-- `is_proper` meets its contract: each test is one of the definition's.
-- Assumes nothing.
use borrow.Author.Tests.{le-leb, lt-leb}
use Prim.Native.Nat.{◌^◌}
use native.Mathlib.Omega.{arith}
use lib.ListN.{get_or}
use Rattle.reception.specs.Reports.{is_proper}
use Rattle.reception.proofs.Report.is_proper.Goals as goal

pub returns-then-self-gt4294967296 : goal.returns-then-self-gt4294967296
unfolding is_proper
returns-then-self-gt4294967296 c =
    let r = c.args.self.now in
    rw (lt-leb r.blocks (2 ^ 32) (omega arith))

pub returns-then-self : goal.returns-then-self
unfolding is_proper
returns-then-self c =
    let r = c.args.self.now in
    rw (le-leb r.blocks (2 ^ 32) (omega arith), lt-leb r.good r.blocks (omega arith))

pub returns-then-self-2 : goal.returns-then-self-2
unfolding is_proper
returns-then-self-2 c =
    let r = c.args.self.now in
    rw (le-leb r.blocks (2 ^ 32) (omega arith), le-leb r.good r.blocks (omega arith), lt-leb r.fillers (get_or r.codes 0 0) (omega arith))

pub returns : goal.returns
unfolding is_proper
returns c =
    let r = c.args.self.now in
    rw (le-leb r.blocks (2 ^ 32) (omega arith), le-leb r.good r.blocks (omega arith), le-leb r.fillers (get_or r.codes 0 0) (omega arith))
    c.add_up.ensures
