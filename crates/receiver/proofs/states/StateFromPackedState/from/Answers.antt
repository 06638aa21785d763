-- A packed state becomes its fifty places: what stands above them is left out, so the number is not too wide for `unpack`.
-- Assumes nothing.
use borrow.Author.Tests.{lt-ltb}
use Prim.Native.Nat.{◌%◌, ◌^◌}
use native.Mathlib.Nat.{mod-lt}
use lib.Pow.{pow_pos}
use Rattle.block.proofs.Strings.{bits_of_mod}
use Rattle.receiver.proofs.states.StateFromPackedState.from.Goals as goal

pub returns : goal.returns
returns c =
    let n = c.args.packed.bits in
    rw (c.unpack.ensures.1, lt-ltb (n % 2 ^ 50) (2 ^ 50) (mod-lt n (pow_pos 50)), bits_of_mod 50 n)
