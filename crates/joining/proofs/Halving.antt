-- How product and power are found by halving: a remainder is its lowest coefficient and its half moved up, a length its half twice, and one
-- more where it is odd.
-- Assumes nothing.
use mathlib.Core.Path.{◌≡◌, sym, ap, ap₂, ◌∙◌}
use Prim.Native.Nat.{ℕ, ◌+◌, ◌*◌, ◌/◌, ◌%◌, ◌^◌, ◌<◌, ◌≤◌}
use native.Mathlib.Nat.{one-mul, zero-mul, div-add-mod'}
use native.Mathlib.Omega.{arith}
use lib.Bits.{bit_xor, xor_block, xor_zero_l, xor_zero_r}
use lib.Pow.{pow_mono}
use Rattle.block.specs.Bits.{zeros}
use Rattle.block.specs.Division.{step_bit}
use Rattle.block.proofs.Linear.{step_lt}
use Rattle.block.proofs.Strings.{rem_small, step_small, val_zeros}
use Rattle.block.proofs.Xor.{on_bit}
use Rattle.joining.specs.Joining.{times, power_of_x}
use Rattle.joining.proofs.Products.{times_comm, times_lt, times_one, times_sum, times_swap, times_zero}
use Rattle.joining.proofs.Powers.{power_adds, power_is, power_lt, turned}

-- a power below x^13 is itself
pub power_small : (n : ℕ) → n < 13 → power_of_x n ≡ 2 ^ n
power_small n h =
    let e : n ≤ 12 = omega arith in
    power_is n ∙ rem_small (zeros n) 1 (omega (arith, val_zeros n 1, pow_mono e)) ∙ val_zeros n 1 ∙ one-mul (2 ^ n)

-- a remainder's lowest coefficient, and the others, which are half of it, moved up
lowest : (a : ℕ) → a < 8192 → a ≡ bit_xor (a % 2) (step_bit (a / 2) 0)
lowest a h =
    let low : 0 * 2 + a % 2 ≡ a % 2 = omega arith in
    sym (ap (bit_xor (a % 2)) (step_small (a / 2) 0 (omega arith)) ∙ ap (λ (n : ℕ). bit_xor n (a / 2 * 2 + 0)) (sym low)
    ∙ xor_block 1 0 (a / 2) (a % 2) 0 (omega arith) (omega arith)
    ∙ ap₂ (λ (m n : ℕ). m * 2 + n) (xor_zero_l (a / 2)) (xor_zero_r (a % 2)) ∙ div-add-mod' a 2)

-- the second where the first has its lowest coefficient; for the others the second moves up
pub times_halved : (a b : ℕ) → a < 8192 → b < 8192 → times a b ≡ bit_xor (a % 2 * b) (times (a / 2) (step_bit b 0))
times_halved a b ha hb =
    let half : ℕ = a / 2 in
    let small : half < 8192 = omega arith in
    let low : times b (a % 2) ≡ a % 2 * b =
    on_bit (λ t. times b t ≡ t * b) (times_zero b ∙ sym (zero-mul b)) (times_one b hb ∙ sym (one-mul b)) (a % 2) (omega arith) in
    let high : times b (step_bit half 0) ≡ times half (step_bit b 0) =
    ap (times b) (turned half small) ∙ times_swap b half (power_of_x 1) (power_lt 1) ∙ ap (times half) (sym (turned b hb)) in
    times_comm a b ha hb ∙ ap (times b) (lowest a ha)
    ∙ times_sum b (a % 2) (step_bit half 0) (omega arith) (step_lt half 0 small (omega arith)) ∙ ap₂ bit_xor low high

-- the power of a length from that of its half: the square, and once more x where the length is odd
pub power_even : (n : ℕ) → n % 2 ≡ 0 → power_of_x n ≡ times (power_of_x (n / 2)) (power_of_x (n / 2))
power_even n h = let e : n ≡ n / 2 + n / 2 = omega arith in ap power_of_x e ∙ power_adds (n / 2) (n / 2)

pub power_odd : (n : ℕ) → (n % 2 ≡ 0 → ⊥) → power_of_x n ≡ step_bit (times (power_of_x (n / 2)) (power_of_x (n / 2))) 0
power_odd n h =
    let e : n ≡ n / 2 + n / 2 + 1 = omega arith in
    let square : ℕ = times (power_of_x (n / 2)) (power_of_x (n / 2)) in
    ap power_of_x e ∙ power_adds (n / 2 + n / 2) 1 ∙ ap (λ (r : ℕ). times r (power_of_x 1)) (power_adds (n / 2) (n / 2))
    ∙ sym (turned square (times_lt (power_of_x (n / 2)) (power_of_x (n / 2)) (power_lt (n / 2))))
