-- One bit leaves the state proper and uses up at most one block, and the number that goes with it has no bit above place 49.
-- Assumes nothing.
use Rattle.std.proofs.Common.{◌≡◌, ℕ, zero, suc, ◌+◌, ◌/◌, ◌%◌, ◌^◌, ◌<◌, ◌≤◌, true, eqb, ltb, List, [], ◌∷◌, ◌++◌, length, arith, lt-ltb, eqb-true}
use mathlib.Core.Bool.{and-eq-true_iff}
use Rattle.block.specs.Bits.{bits_of}
use Rattle.block.proofs.Strings.{length_bits_of}
use Rattle.receiver.specs.declared.PackedState.{PackedState}
use Rattle.receiver.specs.Packed.{unpacked, packed_proper, packed_ran, fed_packed}
use Rattle.receiver.specs.Runs.{ended, fed_of}
use Rattle.receiver.specs.States.{bits_proper}
use Rattle.receiver.specs.Steps.{Step, step_of}
use Rattle.receiver.proofs.Balance.{step_balance}
use Rattle.receiver.proofs.Layouts.{packed_proper_lem, proper_small, proper_unpacked}
use Rattle.receiver.proofs.StaysProper.{Proper, room, bits_and_lock, step_proper}
use Rattle.log_blocks.specs.Log.{edition, used_in}

-- a last place that is not in use is 0
last_free : (n : ℕ) (l : List ℕ) (x : ℕ) → n ≤ length l → bits_proper n (l ++ x ∷ []) ≡ true → x ≡ 0
unfolding bits_proper
last_free zero [] x h e = eqb-true x 0 ((and-eq-true_iff (eqb x 0) _).0 e).0
last_free (suc n) [] x h e = absurd (omega arith)
last_free zero (y ∷ l) x h e = last_free zero l x (omega arith) ((and-eq-true_iff (eqb y 0) _).0 e).1
last_free (suc n) (y ∷ l) x h e = last_free n l x (omega arith) ((and-eq-true_iff (ltb y 2) _).0 e).1

module _ (p : PackedState) (e : packed_proper edition p ≡ true) where
  proper : Proper edition (unpacked p)
  proper = proper_unpacked edition p e

  few : p.waiting < 50
  few = room edition (unpacked p) proper.proper

  place_0 : p.bits % 2 ≡ 0
  unfolding bits_of
  place_0 = last_free p.waiting (bits_of 49 (p.bits / 2)) (p.bits % 2) (omega (arith, few, length_bits_of 49 (p.bits / 2))) (bits_and_lock edition (unpacked p) proper.proper).0

  module _ (b : ℕ) (bit : b < 2) where
    abbrev step : Step
    step = step_of edition (unpacked p) b

    fed_is : fed_packed edition p b ≡ packed_ran (ended 0 step.blocks step.passed step.next)
    unfolding fed_packed fed_of
    fed_is = rw (e, proper.proper, lt-ltb b 2 bit)

    pub fed_proper : packed_proper edition (fed_packed edition p b).state ≡ true
    fed_proper = rw fed_is (packed_proper_lem edition _ (step_proper edition (unpacked p) b bit proper))

    pub fed_one : used_in (fed_packed edition p b) ≤ 1
    fed_one = rw fed_is (omega (arith, few, step_balance edition (unpacked p) b few))

    pub with_bit : p.bits + b < 2 ^ 50
    with_bit = omega (arith, place_0, proper_small edition p e)
