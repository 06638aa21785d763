-- What follows from `bit_xor` being associative: it swaps, cancels, and is zero of equals only.
-- Assumes nothing.
use mathlib.Core.Path.{◌≡◌, sym, ap, ◌∙◌}
use Prim.Native.Nat.{ℕ, zero, suc, ◌<◌}
use native.Mathlib.Omega.{arith}
use lib.Bits.{bit_xor, xor_comm, xor_self, xor_zero_r}
-- the library's law, passed on with what follows from it
pub use lib.Bits.{xor_assoc}

-- what holds of 0 and of 1 holds of every bit
pub on_bit : (P : ℕ → Type 0) → P 0 → P 1 → (b : ℕ) → b < 2 → P b
on_bit P p q zero h = p
on_bit P p q (suc zero) h = q
on_bit P p q (suc (suc b)) h = absurd (omega arith)

-- what gives 0 for 0 gives for the sum of two bits the sum of what it gives for each
pub sum_of_bits : (f : ℕ → ℕ) → f 0 ≡ 0 → (s t : ℕ) → s < 2 → t < 2 → f (bit_xor s t) ≡ bit_xor (f s) (f t)
sum_of_bits f z s t hs ht =
    on_bit (λ s. f (bit_xor s t) ≡ bit_xor (f s) (f t)) (sym (ap (λ (x : ℕ). bit_xor x (f t)) z))
    (on_bit (λ t. f (bit_xor 1 t) ≡ bit_xor (f 1) (f t)) (sym (ap (bit_xor (f 1)) z ∙ xor_zero_r (f 1))) (z ∙ sym (xor_self (f 1))) t ht) s hs

-- the middle two of four change places
pub xor_swap : (a b c d : ℕ) → bit_xor (bit_xor a b) (bit_xor c d) ≡ bit_xor (bit_xor a c) (bit_xor b d)
xor_swap a b c d =
    xor_assoc a b (bit_xor c d)
    ∙ ap (bit_xor a) (sym (xor_assoc b c d) ∙ ap (λ (x : ℕ). bit_xor x d) (xor_comm b c) ∙ xor_assoc c b d)
    ∙ sym (xor_assoc a c (bit_xor b d))

pub xor_cancel : (a b : ℕ) → bit_xor a (bit_xor a b) ≡ b
xor_cancel a b = sym (xor_assoc a a b) ∙ ap (λ (x : ℕ). bit_xor x b) (xor_self a)

pub xor_eq : (a b : ℕ) → bit_xor a b ≡ 0 → a ≡ b
xor_eq a b e = sym (xor_zero_r a) ∙ ap (bit_xor a) (sym e) ∙ xor_cancel a b
