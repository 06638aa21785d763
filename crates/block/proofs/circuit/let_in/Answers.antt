-- `let_in` meets its contract. The loop's invariant: the division of the bits that are left goes on to the same end.
-- Assumes nothing.
use mathlib.Core.Path.{◌≡◌, refl, sym, ◌∙◌}
use Prim.Native.Nat.{ℕ, zero, suc, ◌≤◌, ◌/◌, ◌^◌}
use native.Mathlib.Omega.{arith}
use Rattle.block.specs.Bits.{bits_of}
use Rattle.block.specs.Division.{remainder_from}
use Rattle.block.proofs.Along.{along, moved_lt}
use Rattle.block.proofs.circuit.let_in.Goals as goal

ends : (n k : ℕ) → k ≤ 0 → remainder_from (n / 2 ^ k) (bits_of k n) ≡ n
unfolding bits_of remainder_from
ends n zero h = omega arith
ends n (suc k) h = absurd (omega arith)

pub loop-behind-init : goal.loop-behind-init
loop-behind-init c = (c.requires.0, refl)

pub feed_back-rest-requires : goal.feed_back-rest-requires
feed_back-rest-requires c =
    let lp = c.loop-behind in
    (omega arith, moved_lt lp.behind lp.rest c.loop-behind-test.true lp.invariant.0)

pub loop-behind-preserved : goal.loop-behind-preserved
loop-behind-preserved c =
    let on = along c.loop-behind.behind c.loop-behind.rest c.feed_back-rest.result c.loop-behind-test.true c.loop-behind.invariant.0 c.feed_back-rest.ensures in
    (on.0, on.1 ∙ c.loop-behind.invariant.1)

pub returns : goal.returns
returns c =
    sym (ends c.loop-behind.rest c.loop-behind.behind (omega arith)) ∙ c.loop-behind.invariant.1
