-- The laws of the field: the checker computes them for all elements, and of a larger number the lowest four bits count.
-- Assumes nothing.
use mathlib.Core.Path.{◌≡◌, refl, sym, ap, ap₂, ◌∙◌}
use Prim.Native.Nat.{ℕ, zero, suc, ◌*◌, ◌/◌, ◌%◌, ◌<◌, ◌≤◌}
use native.Mathlib.Nat.{le_of_suc-le-suc, mul-le-mul_right}
use native.Mathlib.Omega.{arith}
use lib.Bits.{bit_xor, xor_mod}
use lib.Pow.{field}
use lib.Dec.{eqb, ltb, eqb→eq, ltb→lt}
use Rattle.block.proofs.Below.{below, at_below, at_pairs}
use Rattle.field16.specs.Field.{carryless, times, power, inverse_of}

module _ (a b : ℕ) (ha : a < 16) (hb : b < 16) where
  product_lt : times a b < 16
  unfolding times
  product_lt = ltb→lt (times a b) 16 (at_pairs 16 (λ a b. ltb (times a b) 16) tt a b ha hb)

  product_comm : times a b ≡ times b a
  unfolding times
  product_comm = eqb→eq (times a b) (times b a) (at_pairs 16 (λ a b. eqb (times a b) (times b a)) tt a b ha hb)

  module _ (c : ℕ) (hc : c < 16) where
    product_assoc : times a (times b c) ≡ times (times a b) c
    unfolding times
    product_assoc =
        eqb→eq (times a (times b c)) (times (times a b) c)
        (at_below 16 (λ c. eqb (times a (times b c)) (times (times a b) c))
        (at_pairs 16 (λ a b. below 16 (λ c. eqb (times a (times b c)) (times (times a b) c))) tt a b ha hb) c hc)

    product_sum : times a (bit_xor b c) ≡ bit_xor (times a b) (times a c)
    unfolding times
    product_sum =
        eqb→eq (times a (bit_xor b c)) (bit_xor (times a b) (times a c))
        (at_below 16 (λ c. eqb (times a (bit_xor b c)) (bit_xor (times a b) (times a c)))
        (at_pairs 16 (λ a b. below 16 (λ c. eqb (times a (bit_xor b c)) (bit_xor (times a b) (times a c)))) tt a b ha hb) c hc)

low_lt : (a : ℕ) → a % 16 < 16
low_lt a = omega arith

-- only the lowest four bits count
times_low : (a b : ℕ) → times (a % 16) (b % 16) ≡ times a b
unfolding times carryless
times_low a b =
    let e : a % 16 % 16 ≡ a % 16 = omega arith in
    let e1 : b % 16 % 2 ≡ b % 2 = omega arith in
    let e2 : b % 16 / 2 % 2 ≡ b / 2 % 2 = ap (λ (n : ℕ). n % 2) (field b 3 1) ∙ omega arith in
    let e4 : b % 16 / 4 % 2 ≡ b / 4 % 2 = ap (λ (n : ℕ). n % 2) (field b 2 2) ∙ omega arith in
    let e8 : b % 16 / 8 % 2 ≡ b / 8 % 2 = ap (λ (n : ℕ). n % 2) (field b 1 3) ∙ omega arith in
    rw (e, e1, e2, e4, e8)

module _ (a b : ℕ) where
  pub times_lt : times a b < 16
  times_lt = rw times_low at (product_lt (a % 16) (b % 16) (low_lt a) (low_lt b))

  pub times_comm : times a b ≡ times b a
  times_comm = sym (times_low a b) ∙ product_comm (a % 16) (b % 16) (low_lt a) (low_lt b) ∙ times_low b a

module _ (a b c : ℕ) where
  pub times_assoc : times a (times b c) ≡ times (times a b) c
  times_assoc =
      let e : times b c % 16 ≡ times (b % 16) (c % 16) = omega (arith, times_lt b c, times_low b c) in
      let d : times a b % 16 ≡ times (a % 16) (b % 16) = omega (arith, times_lt a b, times_low a b) in
      sym (times_low a (times b c)) ∙ ap (times (a % 16)) e
      ∙ product_assoc (a % 16) (b % 16) (low_lt a) (low_lt b) (c % 16) (low_lt c)
      ∙ ap (λ (n : ℕ). times n (c % 16)) (sym d) ∙ times_low (times a b) c

  pub times_xor : times a (bit_xor b c) ≡ bit_xor (times a b) (times a c)
  times_xor =
      sym (times_low a (bit_xor b c)) ∙ ap (times (a % 16)) (xor_mod b c 4)
      ∙ product_sum (a % 16) (b % 16) (low_lt a) (low_lt b) (c % 16) (low_lt c)
      ∙ ap₂ bit_xor (times_low a b) (times_low a c)

pub xor_times : (a b c : ℕ) → times (bit_xor a b) c ≡ bit_xor (times a c) (times b c)
xor_times a b c = times_comm (bit_xor a b) c ∙ times_xor c a b ∙ ap₂ bit_xor (times_comm c a) (times_comm c b)

pub times_one : (a : ℕ) → a < 16 → times 1 a ≡ a
unfolding times
times_one a h = eqb→eq (times 1 a) a (at_below 16 (λ a. eqb (times 1 a) a) tt a h)

pub times_zero : (a : ℕ) → times a 0 ≡ 0
unfolding times
times_zero a = sym (times_low a 0) ∙ eqb→eq (times (a % 16) 0) 0 (at_below 16 (λ a. eqb (times a 0) 0) tt (a % 16) (low_lt a))

pub zero_times : (a : ℕ) → times 0 a ≡ 0
zero_times a = times_comm 0 a ∙ times_zero a

-- the product of two elements is 0 only if one of them is
pub times_nonzero : (a b : ℕ) → a < 16 → 0 < a → b < 16 → times a b ≡ 0 → b ≡ 0
unfolding times
times_nonzero zero b ha pa hb e = absurd (omega arith)
times_nonzero (suc a) zero ha pa hb e = refl
times_nonzero (suc a) (suc b) ha pa hb e =
    absurd (omega (arith, ltb→lt 0 (times (suc a) (suc b)) (at_pairs 15 (λ a b. ltb 0 (times (suc a) (suc b))) tt a b (omega arith) (omega arith))))

-- every element but 0 has an inverse
pub times_inverse : (y : ℕ) → y < 16 → 0 < y → times y (inverse_of y) ≡ 1
unfolding inverse_of times
times_inverse zero h p = absurd (omega arith)
times_inverse (suc y) h p = eqb→eq (times (suc y) (inverse_of (suc y))) 1 (at_below 15 (λ y. eqb (times (suc y) (inverse_of (suc y))) 1) tt y (omega arith))

pub power_lt : (x n : ℕ) → power x n < 16
unfolding power
power_lt x zero = omega arith
power_lt x (suc n) = times_lt x (power x n)

-- of powers and of the inverse too only the lowest four bits count
power_low : (x n : ℕ) → power (x % 16) n ≡ power x n
unfolding power
power_low x zero = refl
power_low x (suc n) =
    let e : x % 16 % 16 ≡ x % 16 = omega arith in
    ap (times (x % 16)) (power_low x n) ∙ sym (times_low (x % 16) (power x n)) ∙ ap (λ (m : ℕ). times m (power x n % 16)) e ∙ times_low x (power x n)

pub inverse_low : (y : ℕ) → inverse_of (y % 16) ≡ inverse_of y
unfolding inverse_of
inverse_low y = power_low y 14

-- a bit times an element is no more than the element
pub bit_times : (b a : ℕ) → b < 2 → b * a ≤ a
bit_times b a h = omega (arith, mul-le-mul_right a (le_of_suc-le-suc h))
