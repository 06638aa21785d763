-- `value_at` meets its contract. The loop's invariant: the value moved up by the symbols that are left, and their value, make the whole.
-- Assumes nothing.
use mathlib.Core.Path.{◌≡◌}
use Prim.Native.Nat.{◌<◌, ◌≤◌}
use lib.Bits.{bit_xor}
use Rattle.field16.specs.Words.{at}
use Rattle.big_endian.specs.Digits.{digits}
use Rattle.field16.specs.Field.{times, power}
use Rattle.power_sums.proofs.value_at.Given as goal

abbrev pub invariant-loop-left : goal.invariant-loop-left
invariant-loop-left l =
    (l.left ≤ 6) × (l.value < 16) × (bit_xor (times l.value (power l.x l.left)) (at l.x (digits 4 l.left l.symbols)) ≡ at l.x (digits 4 6 l.symbols))
