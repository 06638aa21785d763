-- A symbol moved up by p places stands alone in its word, and has the value y x^j at a^j, where x is a^p.
-- Assumes nothing.
use mathlib.Core.List.{List, [], ◌∷◌, ◌++◌}
use mathlib.Core.Path.{◌≡◌, refl, sym, ap, ap₂, ◌∙◌}
use Prim.Native.Nat.{ℕ, zero, suc, ◌+◌, ◌-◌, ◌*◌, ◌/◌, ◌%◌, ◌^◌, ◌<◌, ◌≤◌}
use native.Mathlib.Omega.{arith}
use lib.Bits.{bit_xor, xor_self, xor_zero_l, xor_zero_r}
use lib.Pow.{pow_mono, pow_pos, shl_lt}
use Rattle.block.specs.Bits.{xors}
use Rattle.field16.specs.Words.{a_to, at, weight}
use Rattle.big_endian.specs.Digits.{digits}
use Rattle.field16.specs.Field.{times, power}
use Rattle.big_endian.proofs.Digits.{length_digits, digits_append, digits_xor}
use Rattle.field16.proofs.Distance.{weight_nil, weight_none, weight_one, at_weightless, weight_most}
use Rattle.field16.proofs.Elements.{times_comm, times_one, zero_times}
use Rattle.field16.proofs.Words.{at_append, power_times}
use Rattle.wrong_symbols.specs.Search.{Single}

power_of_one : (n : ℕ) → power 1 n ≡ 1
unfolding power
power_of_one zero = refl
power_of_one (suc n) = ap (times 1) (power_of_one n) ∙ times_one 1 (omega arith)

-- a power's power, either way round
power_power : (a m n : ℕ) → power (power a m) n ≡ power (power a n) m
unfolding power
power_power a zero n = power_of_one n
power_power a (suc m) n = power_times a (power a m) n ∙ ap (times (power a n)) (power_power a m n)

weight_self : (w : List ℕ) → weight (xors w w) ≡ 0
unfolding xors
weight_self [] = weight_nil
weight_self (c ∷ cs) = weight_none (bit_xor c c) (xors cs cs) (xor_self c) ∙ weight_self cs

-- 0 has no digit that is not 0
weight_zero : (k : ℕ) → weight (digits 4 k 0) ≡ 0
weight_zero k = ap weight (digits_xor 4 k 0 0) ∙ weight_self (digits 4 k 0)

weight_append : (v w : List ℕ) → weight (v ++ w) ≡ weight v + weight w
weight_append [] w = omega (arith, weight_nil)
weight_append (zero ∷ cs) w = omega (arith, weight_none 0 (cs ++ w) refl, weight_none 0 cs refl, weight_append cs w)
weight_append (suc c ∷ cs) w = omega (arith, weight_one (suc c) (cs ++ w) (omega arith), weight_one (suc c) cs (omega arith), weight_append cs w)

one_digit : (y : ℕ) → y < 16 → digits 4 1 y ≡ y ∷ []
unfolding digits
one_digit y h = ap (λ (n : ℕ). n ∷ []) (let e : y / 1 % 16 ≡ y = omega arith in e)

module _ (p y : ℕ) (hp : p < 15) (hy : y < 16) where
  -- the places above, the symbol, and the places below
  apart : digits 4 15 (y * 2 ^ (4 * p)) ≡ (digits 4 (14 - p) 0 ++ (y ∷ [])) ++ digits 4 p 0
  apart =
      let k : (14 - p) + 1 + p ≡ 15 = omega arith in
      let n : y * 2 ^ (4 * p) + 0 ≡ y * 2 ^ (4 * p) = omega arith in
      let m : 0 * 2 ^ (4 * 1) + y ≡ y = omega arith in
      ap₂ (λ (k n : ℕ). digits 4 k n) (sym k) (sym n)
      ∙ digits_append 4 ((14 - p) + 1) p y 0 (pow_pos (4 * p))
      ∙ ap (λ (l : List ℕ). l ++ digits 4 p 0)
      (ap (digits 4 ((14 - p) + 1)) (sym m) ∙ digits_append 4 (14 - p) 1 0 y (omega arith) ∙ ap (λ (l : List ℕ). digits 4 (14 - p) 0 ++ l) (one_digit y hy))

  at_alone : (X : ℕ) → at X (y ∷ []) ≡ y
  unfolding at power
  at_alone X = xor_zero_r (times y 1) ∙ times_comm y 1 ∙ times_one y hy

  at_top : (X : ℕ) → at X (digits 4 (14 - p) 0 ++ (y ∷ [])) ≡ y
  at_top X =
      at_append X (digits 4 (14 - p) 0) (y ∷ [])
      ∙ ap₂ (λ (m n : ℕ). bit_xor (times m (power X 1)) n) (at_weightless X (digits 4 (14 - p) 0) (weight_zero (14 - p))) (at_alone X)
      ∙ ap (λ (n : ℕ). bit_xor n y) (zero_times (power X 1)) ∙ xor_zero_l y

  at_placed : (X : ℕ) → at X (digits 4 15 (y * 2 ^ (4 * p))) ≡ times y (power X p)
  at_placed X =
      ap (at X) apart ∙ at_append X (digits 4 (14 - p) 0 ++ (y ∷ [])) (digits 4 p 0)
      ∙ ap₂ bit_xor (ap₂ (λ (m k : ℕ). times m (power X k)) (at_top X) (length_digits 4 p 0)) (at_weightless X (digits 4 p 0) (weight_zero p))
      ∙ xor_zero_r (times y (power X p))

  pub placed : (x : ℕ) → a_to p ≡ x → Single x y (y * 2 ^ (4 * p))
  placed x e =
      let w : weight (digits 4 15 (y * 2 ^ (4 * p))) ≡ weight (digits 4 (14 - p) 0) + weight (y ∷ []) + weight (digits 4 p 0) =
      ap weight apart ∙ weight_append (digits 4 (14 - p) 0 ++ (y ∷ [])) (digits 4 p 0) ∙ ap (λ (n : ℕ). n + weight (digits 4 p 0)) (weight_append (digits 4 (14 - p) 0) (y ∷ [])) in
      let i : 4 + 4 * p ≤ 60 = omega arith in
      record {
        fits = omega (arith, shl_lt 4 (4 * p) hy, pow_mono i);
        few = omega (arith, w, weight_zero (14 - p), weight_zero p, weight_most y [], weight_nil);
        values = λ j. at_placed (a_to j) ∙ ap (times y) (power_power 2 j p ∙ ap (λ (n : ℕ). power n j) e);
      }
