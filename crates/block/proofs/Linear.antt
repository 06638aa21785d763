-- The remainder is linear in the bits: the division of a sum is the sum of the divisions, since each step of the circuit is.
-- Assumes nothing.
use mathlib.Core.Bool.{Bool, true, false}
use mathlib.Core.Path.{◌≡◌, refl, sym, ap, ap₂, ◌∙◌}
use mathlib.Core.List.{List, [], ◌∷◌}
use Prim.Native.Nat.{ℕ, ◌+◌, ◌*◌, ◌/◌, ◌<◌}
use native.Mathlib.Omega.{arith}
use lib.ListN.{length}
use borrow.Author.Tests.{ltb-true, ltb-false}
use lib.Bits.{bit_xor, xor_lt, xor_shr, xor_block, xor_zero_r}
use lib.Dec.{ltb}
use Rattle.block.specs.Bits.{Bits, xors}
use Rattle.block.specs.Division.{generator, reduce, step_bit, remainder_from}
use Rattle.block.proofs.Xor.{on_bit, sum_of_bits, xor_swap}

-- below x^14 the generator is taken off as often as an x^13 has come up: once or not at all
reduce_is : (n : ℕ) → n < 16384 → reduce n ≡ bit_xor n (n / 8192 * generator)
unfolding reduce
reduce_is n h = by (ltb n 8192) refl
  where
    by : (t : Bool) → ltb n 8192 ≡ t → reduce n ≡ bit_xor n (n / 8192 * generator)
    by true e =
        let z : n / 8192 ≡ 0 = omega (arith, ltb-true n 8192 e) in
        rw (e, z) (sym (xor_zero_r n))
    by false e =
        let o : n / 8192 ≡ 1 = omega (arith, ltb-false n 8192 e) in
        rw (e, o)

reduce_xor : (n m : ℕ) → n < 16384 → m < 16384 → reduce (bit_xor n m) ≡ bit_xor (reduce n) (reduce m)
reduce_xor n m hn hm =
    reduce_is (bit_xor n m) (xor_lt 14 n m hn hm) ∙ ap (λ (x : ℕ). bit_xor (bit_xor n m) (x * generator)) (xor_shr n m 13)
    ∙ ap (bit_xor (bit_xor n m)) (sum_of_bits (λ t. t * generator) refl (n / 8192) (m / 8192) (omega arith) (omega arith))
    ∙ xor_swap n m (n / 8192 * generator) (m / 8192 * generator) ∙ sym (ap₂ bit_xor (reduce_is n hn) (reduce_is m hm))

-- the x^13 of the generator takes off the x^13 that came up
pub reduce_lt : (n : ℕ) → n < 16384 → reduce n < 8192
reduce_lt n h =
    let e : bit_xor n (n / 8192 * generator) / 8192 ≡ 0 =
    xor_shr n (n / 8192 * generator) 13 ∙ on_bit (λ t. bit_xor t (t * generator / 8192) ≡ 0) refl refl (n / 8192) (omega arith) in
    omega (arith, reduce_is n h)

pub step_is : (r b : ℕ) → r < 8192 → b < 2 → step_bit r b ≡ bit_xor (r * 2 + b) ((r * 2 + b) / 8192 * generator)
unfolding step_bit
step_is r b hr hb = reduce_is (r * 2 + b) (omega arith)

pub step_lt : (r b : ℕ) → r < 8192 → b < 2 → step_bit r b < 8192
unfolding step_bit
step_lt r b hr hb = reduce_lt (r * 2 + b) (omega arith)

pub stepped_lt : {q r b : ℕ} → q ≡ step_bit r b → r < 8192 → b < 2 → q < 8192
stepped_lt {q} {r} {b} e hr hb = rw e (step_lt r b hr hb)

step_xor : (r s b c : ℕ) → r < 8192 → s < 8192 → b < 2 → c < 2 → step_bit (bit_xor r s) (bit_xor b c) ≡ bit_xor (step_bit r b) (step_bit s c)
unfolding step_bit
step_xor r s b c hr hs hb hc =
    ap reduce (sym (xor_block 1 r s b c hb hc)) ∙ reduce_xor (r * 2 + b) (s * 2 + c) (omega arith) (omega arith)

pub rem_xor : (bs cs : List ℕ) (r s : ℕ) → r < 8192 → s < 8192 → Bits bs → Bits cs → length bs ≡ length cs
    → remainder_from (bit_xor r s) (xors bs cs) ≡ bit_xor (remainder_from r bs) (remainder_from s cs)
unfolding remainder_from xors
rem_xor [] [] r s hr hs hb hc e = refl
rem_xor [] (c ∷ cs) r s hr hs hb hc e = absurd (omega arith)
rem_xor (b ∷ bs) [] r s hr hs hb hc e = absurd (omega arith)
rem_xor (b ∷ bs) (c ∷ cs) r s hr hs hb hc e =
    ap (λ (x : ℕ). remainder_from x (xors bs cs)) (step_xor r s b c hr hs hb.0 hc.0)
    ∙ rem_xor bs cs (step_bit r b) (step_bit s c) (step_lt r b hr hb.0) (step_lt s c hs hc.0) hb.1 hc.1 (omega arith)
