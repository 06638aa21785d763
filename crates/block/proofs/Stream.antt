-- The circuit turned along a stream of bits, of which the last ones are a number: a bit comes to its end, or goes off its front.
-- Assumes nothing.
use mathlib.Core.List.{List, [], ◌∷◌, ◌++◌}
use mathlib.Core.Path.{◌≡◌, ap, ap₂, ◌∙◌}
use Prim.Native.Nat.{ℕ, suc, ◌+◌, ◌*◌, ◌/◌, ◌%◌, ◌^◌, ◌<◌}
use native.Mathlib.Nat.{div-eq_of_lt, mod-eq_of_lt}
use native.Mathlib.Numerals.{add-one}
use native.Mathlib.Omega.{arith}
use lib.Bits.{bit_xor, xor_comm}
use lib.Pow.{pow_pos}
use Rattle.block.specs.Bits.{bits_of, value, zeros}
use Rattle.block.specs.Division.{step_bit, remainder_from, remainder}
use Rattle.block.proofs.Xor.{xor_cancel}
use Rattle.block.proofs.Strings.{bits_bits_of, bits_of_cut, bits_of_first, length_bits_of, rem_append, rem_small, rem_split, val_mod}

-- a bit at the end of a string turns the circuit once
pub at_the_end : (k n b : ℕ) → b < 2 → remainder (bits_of (k + 1) (n * 2 + b)) ≡ step_bit (remainder (bits_of k n)) b
unfolding bits_of remainder_from
at_the_end k n b h =
    let half : (n * 2 + b) / 2 ≡ n = omega arith in
    let odd : (n * 2 + b) % 2 ≡ b = omega arith in
    ap (λ (j : ℕ). remainder (bits_of j (n * 2 + b))) (add-one k)
    ∙ ap₂ (λ (x y : ℕ). remainder (bits_of k x ++ (y ∷ []))) half odd ∙ rem_append (bits_of k n) (b ∷ []) 0

-- zeros in front of a string leave its remainder as it is
pub in_front : (j k n : ℕ) → n < 2 ^ k → remainder (bits_of (j + k) n) ≡ remainder (bits_of k n)
in_front j k n h =
    let z : n / 2 ^ k ≡ 0 = div-eq_of_lt h in
    let none : value (bits_of j 0) ≡ 0 = val_mod j 0 ∙ mod-eq_of_lt (pow_pos j) in
    ap remainder (bits_of_cut j k n ∙ ap (λ (m : ℕ). bits_of j m ++ bits_of k n) z) ∙ rem_append (bits_of j 0) (bits_of k n) 0
    ∙ ap (λ (r : ℕ). remainder_from r (bits_of k n)) (rem_small (bits_of j 0) 0 (omega (arith, none)) ∙ none)

-- a 1 off the front takes its power of x, reduced, off the register
pub off_the_front : (k n : ℕ) → n / 2 ^ k % 2 ≡ 1 → bit_xor (remainder (bits_of (suc k) n)) (remainder (1 ∷ zeros k)) ≡ remainder (bits_of k n)
unfolding remainder_from step_bit
off_the_front k n e =
    let off : ℕ = remainder (1 ∷ zeros k) in
    let s : List ℕ = bits_of k n in
    let whole : remainder (bits_of (suc k) n) ≡ bit_xor off (remainder s) =
    ap remainder (bits_of_first k n) ∙ ap (λ (t : ℕ). remainder (t ∷ s)) e ∙ rem_split s 1 (omega arith) (bits_bits_of k n)
    ∙ ap (λ (j : ℕ). bit_xor (remainder (1 ∷ zeros j)) (remainder s)) (length_bits_of k n) in
    xor_comm (remainder (bits_of (suc k) n)) off ∙ ap (bit_xor off) whole ∙ xor_cancel off (remainder s)
