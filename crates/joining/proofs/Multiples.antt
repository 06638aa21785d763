-- The product of two remainders is a sum of one of them, moved up as far as each coefficient of the other; and it does not matter in
-- which order something is moved up and summed, since each turn of the circuit is linear.
-- Assumes nothing.
use mathlib.Core.List.{List, [], ◌∷◌}
use mathlib.Core.Path.{◌≡◌, refl, sym, ap, ap₂, ◌∙◌}
use Prim.Native.Nat.{ℕ, suc, ◌+◌, ◌-◌, ◌*◌, ◌^◌, ◌<◌, ◌≤◌}
use native.Mathlib.Nat.{add_comm, zero-mul, one-mul}
use native.Mathlib.Omega.{arith}
use lib.Bits.{bit_xor, xor_lt, xor_self}
use lib.ListN.{length}
use lib.Pow.{pow_mono, shl_lt}
use Rattle.block.specs.Bits.{Bits, bits_of}
use Rattle.block.specs.Division.{step_bit, remainder_from, remainder}
use Rattle.block.specs.Polynomials.{product}
use Rattle.block.proofs.Linear.{rem_xor}
use Rattle.block.proofs.Strings.{bits_bits_of, bits_of_xor, length_bits_of, rem_split}
use Rattle.block.proofs.Xor.{on_bit, xor_swap}
use Rattle.block.proofs.Zeros.{up, up_lt, up_number, up_on, up_xor}
use Rattle.joining.specs.Joining.{times}

-- a remainder moved up as far as each coefficient of a string, and summed
pub multiple : List ℕ → ℕ → ℕ
multiple [] r = 0
multiple (q ∷ qs) r = bit_xor (q * up (length qs) r) (multiple qs r)

-- a bit times something is nothing or that
scaled : (f : ℕ → ℕ) → f 0 ≡ 0 → (q s : ℕ) → q < 2 → f (q * s) ≡ q * f s
scaled f z q s h = on_bit (λ q. f (q * s) ≡ q * f s) (simp (zero-mul, z)) (simp one-mul) q h

scaled_sum : (q r s : ℕ) → q < 2 → q * bit_xor r s ≡ bit_xor (q * r) (q * s)
scaled_sum q r s h = on_bit (λ q. q * bit_xor r s ≡ bit_xor (q * r) (q * s)) (simp zero-mul) (simp one-mul) q h

pub scaled_lt : (q s : ℕ) → q < 2 → s < 8192 → q * s < 8192
scaled_lt q s h l = on_bit (λ q. q * s < 8192) (omega arith) (omega arith) q h

pub multiple_lt : (qs : List ℕ) (r : ℕ) → Bits qs → r < 8192 → multiple qs r < 8192
unfolding multiple
multiple_lt [] r h l = omega arith
multiple_lt (q ∷ qs) r h l =
    xor_lt 13 (q * up (length qs) r) (multiple qs r) (scaled_lt q (up (length qs) r) h.0 (up_lt (length qs) r l)) (multiple_lt qs r h.1 l)

-- ---- what sums and moves up alike goes through a multiple

module _ (f : ℕ → ℕ) (sums : (r s : ℕ) → r < 8192 → s < 8192 → f (bit_xor r s) ≡ bit_xor (f r) (f s)) (moves : (n r : ℕ) → r < 8192 → f (up n r) ≡ up n (f r)) where
  none : f 0 ≡ 0
  none = sums 0 0 (omega arith) (omega arith) ∙ xor_self (f 0)

  through : (qs : List ℕ) (r : ℕ) → Bits qs → r < 8192 → f (multiple qs r) ≡ multiple qs (f r)
  unfolding multiple
  through [] r h l = none
  through (q ∷ qs) r h l =
      let k : ℕ = length qs in
      let below : up k r < 8192 = up_lt k r l in
      sums (q * up k r) (multiple qs r) (scaled_lt q (up k r) h.0 below) (multiple_lt qs r h.1 l)
      ∙ ap₂ bit_xor (scaled f none q (up k r) h.0 ∙ ap (λ (s : ℕ). q * s) (moves k r l)) (through qs r h.1 l)

up_up : (n m r : ℕ) → up n (up m r) ≡ up m (up n r)
up_up n m r = up_on m n r ∙ ap (λ (k : ℕ). up k r) (add_comm m n) ∙ sym (up_on n m r)

pub up_none : (n : ℕ) → up n 0 ≡ 0
up_none n = none (up n) (up_xor n) (λ m r h. up_up n m r)

pub up_through : (n : ℕ) (qs : List ℕ) (r : ℕ) → Bits qs → r < 8192 → up n (multiple qs r) ≡ multiple qs (up n r)
up_through n = through (up n) (up_xor n) (λ m r h. up_up n m r)

pub multiple_sum : (qs : List ℕ) (r s : ℕ) → Bits qs → r < 8192 → s < 8192 → multiple qs (bit_xor r s) ≡ bit_xor (multiple qs r) (multiple qs s)
unfolding multiple
multiple_sum [] r s h hr hs = refl
multiple_sum (q ∷ qs) r s h hr hs =
    let k : ℕ = length qs in
    ap₂ bit_xor
    (ap (λ (t : ℕ). q * t) (up_xor k r s hr hs) ∙ scaled_sum q (up k r) (up k s) h.0)
    (multiple_sum qs r s h.1 hr hs)
    ∙ xor_swap (q * up k r) (q * up k s) (multiple qs r) (multiple qs s)

pub multiple_swap : (ps qs : List ℕ) (r : ℕ) → Bits ps → Bits qs → r < 8192 → multiple ps (multiple qs r) ≡ multiple qs (multiple ps r)
multiple_swap ps qs r hp hq l =
    through (multiple ps) (λ r s. multiple_sum ps r s hp) (λ n r h. sym (up_through n ps r hp h)) qs r hq l

-- ---- a string's multiple of 1 is its remainder, and a number's multiple of a remainder their product

pub multiple_one : (qs : List ℕ) → Bits qs → multiple qs 1 ≡ remainder qs
unfolding multiple remainder_from step_bit
multiple_one [] h = refl
multiple_one (q ∷ qs) h =
    let k : ℕ = length qs in
    let alone : step_bit 0 q ≡ q = on_bit (λ q. step_bit 0 q ≡ q) refl refl q h.0 in
    let same : q * 1 ≡ q = omega arith in
    ap₂ bit_xor (sym (scaled (up k) (up_none k) q 1 h.0) ∙ ap (up k) same) (multiple_one qs h.1)
    ∙ sym (ap (λ (r : ℕ). remainder_from r qs) alone ∙ rem_split qs q (let b = h.0 in omega arith) h.1)

-- a string of k coefficients moves the remainder's x^12 up by fewer than k places
pub product_lt : (qs : List ℕ) (r : ℕ) → Bits qs → r < 8192 → product qs r < 2 ^ (12 + length qs)
unfolding product
product_lt [] r h l = omega arith
product_lt (q ∷ qs) r h l =
    let j : ℕ = length qs in
    let places : 13 + j ≡ 12 + suc j = omega arith in
    let fewer : 12 + j ≤ 13 + j = omega arith in
    rw places at
    (xor_lt (13 + j) (q * r * 2 ^ j) (product qs r) (shl_lt 13 j (scaled_lt q r h.0 l)) (omega (arith, product_lt qs r h.1 l, pow_mono fewer)))

-- what a number of up to k bits leaves is linear in it, and times 2^j moves it up
left_sum : (k m n : ℕ) → remainder (bits_of k (bit_xor m n)) ≡ bit_xor (remainder (bits_of k m)) (remainder (bits_of k n))
left_sum k m n =
    ap remainder (bits_of_xor k m n)
    ∙ rem_xor (bits_of k m) (bits_of k n) 0 0 (omega arith) (omega arith) (bits_bits_of k m) (bits_bits_of k n) (length_bits_of k m ∙ sym (length_bits_of k n))

left_none : (k : ℕ) → remainder (bits_of k 0) ≡ 0
left_none k = left_sum k 0 0 ∙ xor_self (remainder (bits_of k 0))

left_up : (i j r : ℕ) → r < 8192 → remainder (bits_of (i + (13 + j)) (r * 2 ^ j)) ≡ up j r
left_up i j r h =
    let places : i + (13 + j) ≡ i + 13 + j = omega arith in
    let fewer : 13 ≤ i + 13 = omega arith in
    rw places (up_number (i + 13) j r (omega (arith, pow_mono fewer)) h)

left : (k : ℕ) (qs : List ℕ) (r : ℕ) → Bits qs → r < 8192 → length qs + 12 ≤ k → remainder (bits_of k (product qs r)) ≡ multiple qs r
unfolding product multiple
left k [] r h l e = left_none k
left k (q ∷ qs) r h l e =
    let j : ℕ = length qs in
    let places : k - (13 + j) + (13 + j) ≡ k = omega arith in
    left_sum k (q * r * 2 ^ j) (product qs r)
    ∙ ap₂ bit_xor
    (scaled (λ n. remainder (bits_of k (n * 2 ^ j))) (ap (λ (n : ℕ). remainder (bits_of k n)) (zero-mul (2 ^ j)) ∙ left_none k) q r h.0
    ∙ ap (λ (n : ℕ). q * n) (rw places at (left_up (k - (13 + j)) j r l)))
    (left k qs r h.1 l (omega arith))

pub times_is : (a b : ℕ) → b < 8192 → times a b ≡ multiple (bits_of 13 a) b
unfolding times
times_is a b h = left 25 (bits_of 13 a) b (bits_bits_of 13 a) h (omega (arith, length_bits_of 13 a))
