-- An odd number of changes: the generator has an even number of terms, so the circuit keeps count modulo 2 of the ones that went in.
-- Assumes nothing.
use mathlib.Core.Path.{◌≡◌, refl, sym, ap, ap₂, ◌∙◌}
use mathlib.Core.List.{List, [], ◌∷◌}
use Prim.Native.Nat.{ℕ, ◌+◌, ◌*◌, ◌/◌, ◌%◌, ◌<◌}
use native.Mathlib.Omega.{arith}
use lib.Arith.{bin_ind}
use lib.Bits.{bit_xor, xor_mod, xor_shr, xor_zero_l}
use lib.Count.{ones, ones_step, ones_cat}
use Rattle.block.specs.Bits.{Bits}
use Rattle.block.specs.Division.{generator, step_bit, remainder_from, remainder}
use Rattle.block.proofs.Xor.{on_bit}
use Rattle.block.proofs.Linear.{step_is, step_lt}
use Rattle.detection.specs.Damage.{weight}

xor_sum : (x y : ℕ) → x < 2 → y < 2 → bit_xor x y ≡ (x + y) % 2
xor_sum x y hx hy =
    on_bit (λ x. bit_xor x y ≡ (x + y) % 2) (omega arith) (on_bit (λ y. bit_xor 1 y ≡ (1 + y) % 2) refl refl y hy) x hx

ones_bit : (b : ℕ) → b < 2 → ones b ≡ b
unfolding ones
ones_bit b h = on_bit (λ b. ones b ≡ b) refl refl b h

regroup : (x y p q o : ℕ) → o % 2 ≡ (p + q) % 2 → ((x + y) % 2 + o) % 2 ≡ (x + p + (y + q)) % 2
regroup x y p q o e = omega arith

-- the ones of a sum are those of both, less two for each place where both have one
ones_xor : (a b : ℕ) → ones (bit_xor a b) % 2 ≡ (ones a + ones b) % 2
ones_xor =
    bin_ind (λ (a : ℕ). (b : ℕ) → ones (bit_xor a b) % 2 ≡ (ones a + ones b) % 2)
    (λ b. omega (arith, ones_bit 0 (omega arith), ap ones (xor_zero_l b)))
    (λ a ih b. ap (λ (n : ℕ). n % 2) (ones_step (bit_xor a b)
    ∙ ap₂ (λ (x y : ℕ). x + ones y) (xor_mod a b 1 ∙ xor_sum (a % 2) (b % 2) (omega arith) (omega arith)) (xor_shr a b 1))
    ∙ regroup (a % 2) (b % 2) (ones (a / 2)) (ones (b / 2)) (ones (bit_xor (a / 2) (b / 2))) (ih (b / 2))
    ∙ ap₂ (λ (x y : ℕ). (x + y) % 2) (sym (ones_step a)) (sym (ones_step b)))

-- its ten terms, five in each half
ones_generator : (t : ℕ) → t < 2 → ones (t * generator) % 2 ≡ 0
unfolding ones
ones_generator t h = on_bit (λ t. ones (t * generator) % 2 ≡ 0) refl (ap (λ (n : ℕ). n % 2) (ones_cat 7 121 117 (omega arith))) t h

ones_step_bit : (r b : ℕ) → r < 8192 → b < 2 → ones (step_bit r b) % 2 ≡ (ones r + b) % 2
ones_step_bit r b hr hb =
    let n : ℕ = r * 2 + b in
    omega (arith, ap ones (step_is r b hr hb), ones_xor n (n / 8192 * generator), ones_generator (n / 8192) (omega arith), ones_cat 1 r b hb, ones_bit b hb)

rem_ones : (bs : List ℕ) (r : ℕ) → r < 8192 → Bits bs → ones (remainder_from r bs) % 2 ≡ (ones r + weight bs) % 2
unfolding remainder_from
rem_ones [] r hr h = omega arith
rem_ones (b ∷ bs) r hr h = omega (arith, rem_ones bs (step_bit r b) (step_lt r b hr h.0) h.1, ones_step_bit r b hr h.0)

pub not_odd : (e : List ℕ) → Bits e → remainder e ≡ 0 → weight e % 2 ≡ 1 → ⊥
not_odd e h z o = omega (arith, ap ones z, ones_bit 0 (omega arith), rem_ones e 0 (omega arith) h)
