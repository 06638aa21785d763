-- `kept` meets its contract: the bits of the window weigh less than 2^50 together.
-- Assumes nothing.
use mathlib.Core.Path.{◌≡◌}
use Prim.Native.Nat.{◌+◌, ◌-◌, ◌*◌, ◌^◌, ◌<◌}
use native.Mathlib.Omega.{arith}
use lib.Pow.{shl_lt}
use Rattle.receiver.proofs.states.kept.Goals as goal

pub overflow_mul-window : goal.overflow_mul-window
overflow_mul-window c =
    let w = c.args.window in
    let e : w.waiting + (50 - w.waiting) ≡ 50 = omega (arith, w.room) in
    let fits : w.bits * 2 ^ (50 - w.waiting) < 2 ^ 50 = rw e at (shl_lt w.waiting (50 - w.waiting) w.few) in
    rw c.weight.ensures (omega (arith, fits))
