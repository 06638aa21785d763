-- Powers of x: what is multiplied by one moves up, and so they add up; after 178 places a 1 is a 1 again.
-- Assumes nothing.
use mathlib.Core.Path.{◌≡◌, refl, sym, ap, ◌∙◌}
use Prim.Native.Nat.{ℕ, zero, suc, ◌+◌, ◌*◌, ◌/◌, ◌%◌, ◌<◌}
use native.Mathlib.Nat.{zero-add, zero-mul, div-add-mod'}
use native.Mathlib.Omega.{arith}
use Rattle.block.specs.Bits.{bits_of}
use Rattle.block.specs.Division.{step_bit, remainder_from}
use Rattle.block.proofs.Strings.{bits_bits_of}
use Rattle.block.proofs.Zeros.{up, up_on, up_lt}
use Rattle.joining.specs.Joining.{times, power_of_x}
use Rattle.joining.specs.Laws.{PowerLaws}
use Rattle.joining.proofs.Multiples.{times_is, up_through}
use Rattle.joining.proofs.Products.{of_one, times_one}

pub power_is : (n : ℕ) → power_of_x n ≡ up n 1
unfolding power_of_x remainder_from step_bit
power_is n = refl

pub power_lt : (n : ℕ) → power_of_x n < 8192
power_lt n = rw (power_is n) (up_lt n 1 (omega arith))

pub is_small : (n : ℕ) {p : ℕ} → p ≡ power_of_x n → p < 8192
is_small n e = rw e (power_lt n)

-- times x^n moves a remainder up n places
pub times_power : (n r : ℕ) → r < 8192 → times r (power_of_x n) ≡ up n r
times_power n r h =
    ap (times r) (power_is n) ∙ times_is r (up n 1) (up_lt n 1 (omega arith))
    ∙ sym (up_through n (bits_of 13 r) 1 (bits_bits_of 13 r) (omega arith)) ∙ ap (up n) (of_one r h)

pub power_adds : (m n : ℕ) → power_of_x (m + n) ≡ times (power_of_x m) (power_of_x n)
power_adds m n = power_is (m + n) ∙ sym (up_on m n 1) ∙ sym (times_power n (power_of_x m) (power_lt m) ∙ ap (up n) (power_is m))

-- one more turn is times x
pub turned : (r : ℕ) → r < 8192 → step_bit r 0 ≡ times r (power_of_x 1)
unfolding remainder_from
turned r h = sym (times_power 1 r h)

power_178 : power_of_x 178 ≡ 1
unfolding power_of_x remainder_from step_bit
power_178 = refl

rounds : (q r : ℕ) → power_of_x (q * 178 + r) ≡ power_of_x r
rounds zero r = ap power_of_x (rw zero-mul (zero-add r))
rounds (suc q) r =
    let e : suc q * 178 + r ≡ (q * 178 + r) + 178 = omega arith in
    ap power_of_x e ∙ power_adds (q * 178 + r) 178 ∙ ap (times (power_of_x (q * 178 + r))) power_178
    ∙ times_one (power_of_x (q * 178 + r)) (power_lt (q * 178 + r)) ∙ rounds q r

pub power_laws : PowerLaws
power_laws =
    record {
      adds = power_adds;
      one = power_178;
      repeats = λ n. ap power_of_x (sym (div-add-mod' n 178)) ∙ rounds (n / 178) (n % 178);
    }
