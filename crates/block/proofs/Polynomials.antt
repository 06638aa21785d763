-- The circuit divides: what it takes off at each bit is the generator times the quotient's next digit. And no other number can be left,
-- since a multiple of the generator that is not 0 has an x^13 or a higher power.
-- Assumes nothing.
use mathlib.Core.List.{List, [], ◌∷◌, ◌++◌}
use mathlib.Core.Path.{◌≡◌, refl, sym, ap, ap₂, ◌∙◌}
use Prim.Native.Nat.{ℕ, zero, suc, ◌+◌, ◌*◌, ◌/◌, ◌^◌, ◌<◌}
use native.Mathlib.Nat.{pow-suc, div-div-eq-div-mul, div-le_self}
use native.Mathlib.Omega.{arith}
use lib.Bits.{bit_xor, xor_block, xor_comm, xor_self, xor_zero_l, xor_lt, xor_shr}
use lib.ListN.{length, length-append, length-replicate}
use lib.Pow.{shl-shr}
use Rattle.block.specs.Bits.{Bits, value, value_from, xors, zeros}
use Rattle.block.specs.Division.{generator, step_bit, remainder_from, remainder}
use Rattle.block.specs.Polynomials.{product, Factored, RemainderOf}
use Rattle.block.proofs.Linear.{step_is, step_lt}
use Rattle.block.proofs.Strings.{bits_append, bits_xors, bits_zeros, length_xors, rem_lt}
use Rattle.block.proofs.Xor.{sum_of_bits, xor_assoc, xor_swap, xor_cancel, xor_eq}

pub factored : Factored
unfolding product
factored = refl

-- ---- the circuit leaves a remainder

-- the quotient's digits: a 1 wherever an x^13 comes up
quotient_from : ℕ → List ℕ → List ℕ
quotient_from r [] = []
quotient_from r (b ∷ bs) = (r * 2 + b) / 8192 ∷ quotient_from (step_bit r b) bs

quotient_length : (bs : List ℕ) (r : ℕ) → length (quotient_from r bs) ≡ length bs
unfolding quotient_from
quotient_length [] r = refl
quotient_length (b ∷ bs) r = ap suc (quotient_length bs (step_bit r b))

quotient_bits : (bs : List ℕ) (r : ℕ) → r < 8192 → Bits bs → Bits (quotient_from r bs)
unfolding quotient_from
quotient_bits [] r hr h = tt
quotient_bits (b ∷ bs) r hr h = (let k = h.0 in omega arith, quotient_bits bs (step_bit r b) (step_lt r b hr h.0) h.1)

-- what is added above a string is added to its number, as far up
val_xor : (bs : List ℕ) (a c : ℕ) → Bits bs → value_from (bit_xor a c) bs ≡ bit_xor (a * 2 ^ length bs) (value_from c bs)
unfolding value_from
val_xor [] a c h = let e : a ≡ a * 2 ^ 0 = omega arith in ap (λ (x : ℕ). bit_xor x c) e
val_xor (b ∷ bs) a c h =
    let e : (a * 2 + 0) * 2 ^ length bs ≡ a * 2 ^ suc (length bs) = rw pow-suc (omega arith) in
    ap (λ (v : ℕ). value_from v bs) (ap (λ (d : ℕ). bit_xor a c * 2 + d) (sym (xor_zero_l b)) ∙ sym (xor_block 1 a c 0 b (omega arith) h.0))
    ∙ val_xor bs (a * 2 + 0) (c * 2 + b) h.1
    ∙ ap (λ (x : ℕ). bit_xor x (value_from (c * 2 + b) bs)) e

divided_from : (bs : List ℕ) (r : ℕ) → r < 8192 → Bits bs → value_from r bs ≡ bit_xor (product (quotient_from r bs) generator) (remainder_from r bs)
unfolding value_from product remainder_from quotient_from
divided_from [] r hr h = sym (xor_zero_l r)
divided_from (b ∷ bs) r hr h =
    let n : ℕ = r * 2 + b in
    let off : ℕ = n / 8192 * generator in
    let qs : List ℕ = quotient_from (step_bit r b) bs in
    let taken : n ≡ bit_xor off (step_bit r b) = sym (ap (bit_xor off) (step_is r b hr h.0 ∙ xor_comm n off) ∙ xor_cancel off n) in
    ap (λ (v : ℕ). value_from v bs) taken ∙ val_xor bs off (step_bit r b) h.1
    ∙ ap₂ bit_xor (ap (λ (k : ℕ). off * 2 ^ k) (sym (quotient_length bs (step_bit r b)))) (divided_from bs (step_bit r b) (step_lt r b hr h.0) h.1)
    ∙ sym (xor_assoc (off * 2 ^ length qs) (product qs generator) (remainder_from (step_bit r b) bs))

pub remainder_is : (s : List ℕ) → Bits s → RemainderOf s (remainder s)
remainder_is s h =
    record {
      quotient = quotient_from 0 s;
      bits = quotient_bits s 0 (omega arith) h;
      whole = divided_from s 0 (omega arith) h;
      below = rem_lt s 0 (omega arith) h;
    }

-- ---- there is no other

product_zeros : (n : ℕ) (qs : List ℕ) (g : ℕ) → product (zeros n ++ qs) g ≡ product qs g
unfolding product
product_zeros zero qs g = refl
product_zeros (suc n) qs g =
    let e : 0 * g * 2 ^ length (zeros n ++ qs) ≡ 0 = omega arith in
    ap (λ (x : ℕ). bit_xor x (product (zeros n ++ qs) g)) e ∙ xor_zero_l (product (zeros n ++ qs) g) ∙ product_zeros n qs g

product_xors : (qs ps : List ℕ) (g : ℕ) → Bits qs → Bits ps → length qs ≡ length ps → product (xors qs ps) g ≡ bit_xor (product qs g) (product ps g)
unfolding product xors
product_xors [] [] g hq hp e = refl
product_xors [] (p ∷ ps) g hq hp e = absurd (omega arith)
product_xors (q ∷ qs) [] g hq hp e = absurd (omega arith)
product_xors (q ∷ qs) (p ∷ ps) g hq hp e =
    let l : length qs ≡ length ps = omega arith in
    ap₂ bit_xor
    (ap (λ (k : ℕ). bit_xor q p * g * 2 ^ k) (length_xors qs ps l)
    ∙ sum_of_bits (λ x. x * g * 2 ^ length qs) (omega arith) q p hq.0 hp.0
    ∙ ap (λ (k : ℕ). bit_xor (q * g * 2 ^ length qs) (p * g * 2 ^ k)) l)
    (product_xors qs ps g hq.1 hp.1 l)
    ∙ xor_swap (q * g * 2 ^ length qs) (p * g * 2 ^ length ps) (product qs g) (product ps g)

-- a product without its lowest places, those behind the first coefficient
above : (qs : List ℕ) (q : ℕ) → product (q ∷ qs) generator / 2 ^ length qs ≡ bit_xor (q * generator) (product qs generator / 2 ^ length qs)
unfolding product
above qs q =
    xor_shr (q * generator * 2 ^ length qs) (product qs generator) (length qs)
    ∙ ap (λ (x : ℕ). bit_xor x (product qs generator / 2 ^ length qs)) (shl-shr (q * generator) (length qs))

product_lt : (qs : List ℕ) → Bits qs → product qs generator / 2 ^ length qs < 8192
unfolding product
product_lt [] h = omega arith
product_lt (q ∷ qs) h =
    let p : ℕ = product (q ∷ qs) generator in
    let e : p / 2 ^ length qs / 2 ≡ p / 2 ^ suc (length qs) = div-div-eq-div-mul p (2 ^ length qs) 2 ∙ ap (λ (n : ℕ). p / n) (sym (pow-suc 2 (length qs))) in
    let g : q * generator < 16384 = let b = h.0 in omega arith in
    omega (arith, e, above qs q, xor_lt 14 (q * generator) (product qs generator / 2 ^ length qs) g (omega (arith, product_lt qs h.1)))

-- where the first coefficient is 1, the product has the generator's x^13, moved up
small_none : (qs : List ℕ) → Bits qs → product qs generator < 8192 → product qs generator ≡ 0
unfolding product
small_none [] h l = refl
small_none (zero ∷ qs) h l =
    let e : product (0 ∷ qs) generator ≡ product qs generator = product_zeros 1 qs generator in
    e ∙ small_none qs h.1 (omega arith)
small_none (suc zero ∷ qs) h l =
    let p : ℕ = product qs generator / 2 ^ length qs in
    let z : p / 8192 ≡ 0 = omega (arith, product_lt qs h.1) in
    let e : bit_xor generator p / 8192 ≡ 1 = xor_shr generator p 13 ∙ ap (bit_xor 1) z in
    absurd (omega (arith, above qs 1, div-le_self (product (1 ∷ qs) generator) (2 ^ length qs)))
small_none (suc (suc q) ∷ qs) h l = absurd (omega arith)

-- and so has the sum of two products, which zeros before the shorter make one
sum_small_none : (qs ps : List ℕ) → Bits qs → Bits ps → bit_xor (product qs generator) (product ps generator) < 8192
    → bit_xor (product qs generator) (product ps generator) ≡ 0
sum_small_none qs ps hq hp l =
    let q : List ℕ = zeros (length ps) ++ qs in
    let p : List ℕ = zeros (length qs) ++ ps in
    let bq : Bits q = bits_append (zeros (length ps)) qs (bits_zeros (length ps)) hq in
    let bp : Bits p = bits_append (zeros (length qs)) ps (bits_zeros (length qs)) hp in
    let size : length q ≡ length p = simp (length-append, length-replicate) (omega arith) in
    let e : product (xors q p) generator ≡ bit_xor (product qs generator) (product ps generator) =
    product_xors q p generator bq bp size ∙ ap₂ bit_xor (product_zeros (length ps) qs generator) (product_zeros (length qs) ps generator) in
    sym e ∙ small_none (xors q p) (bits_xors q p bq bp) (omega arith)

pub remainder_only : {s : List ℕ} {r t : ℕ} → RemainderOf s r → RemainderOf s t → r ≡ t
remainder_only {s} {r} {t} a b =
    let p : ℕ = product a.quotient generator in
    let q : ℕ = product b.quotient generator in
    let e : bit_xor p q ≡ bit_xor r t =
    xor_eq (bit_xor p q) (bit_xor r t) (xor_swap p q r t ∙ ap₂ bit_xor (sym a.whole) (sym b.whole) ∙ xor_self (value s)) in
    xor_eq r t (sym e ∙ sum_small_none a.quotient b.quotient a.bits b.bits (omega (arith, xor_lt 13 r t a.below b.below)))
