-- `remainder` meets its contract: the first thirteen bits fill the register.
-- Assumes nothing.
use mathlib.Core.Path.{◌≡◌, sym, ap, ◌∙◌}
use Prim.Native.Nat.{ℕ, ◌/◌, ◌%◌, ◌^◌}
use native.Mathlib.Omega.{arith}
use Rattle.block.specs.Bits.{bits_of}
use Rattle.block.specs.Division.{remainder, remainder_from}
use Rattle.block.proofs.Strings.{bits_of_mod, rem_filled, thirteen}
use Rattle.block.proofs.circuit.remainder.Goals as goal

-- what stands above the 49 bits is not among them
lowest : (n : ℕ) → remainder (bits_of 49 n) ≡ remainder_from (n % 2 ^ 49 / 2 ^ 36) (bits_of 36 (n % 2 ^ 49))
lowest n = sym (ap remainder (bits_of_mod 49 n)) ∙ rem_filled 36 (n % 2 ^ 49) (omega arith)

pub let_in-requires : goal.let_in-requires
let_in-requires c = (omega arith, omega arith)

pub overflow_cast-result : goal.overflow_cast-result
overflow_cast-result c =
    let number = c.args.number in
    omega (arith, thirteen 49 number (c.let_in.ensures ∙ sym (lowest number)))

pub returns : goal.returns
returns c = c.let_in.ensures ∙ sym (lowest c.args.number)
