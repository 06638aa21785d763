-- `memory` meets its contract: so many zeros, which are not counted out.
-- Assumes nothing.
use mathlib.Core.Path.{sym}
use Prim.Native.Nat.{ℕ}
use lib.ListN.{length-replicate}
use Rattle.report.proofs.memory.Goals as goal

pub returns : goal.returns
returns c = sym (length-replicate {0} {A = ℕ} 6291457 0)
