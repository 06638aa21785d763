-- Zeros behind a string move what the register holds up, a place each: they add up, a sum moves up as its parts do, and the circuit
-- can be run backwards over them, so they make nothing only out of nothing, and different things out of different ones.
-- Assumes nothing.
use mathlib.Core.Bool.{Bool, true, ◌&&◌}
use mathlib.Core.List.{List, ◌++◌}
use mathlib.Core.Path.{◌≡◌, refl, sym, ap, ◌∙◌}
use Prim.Native.Nat.{ℕ, zero, suc, ◌+◌, ◌*◌, ◌/◌, ◌^◌, ◌<◌, ◌≤◌}
use native.Mathlib.Omega.{arith}
use lib.Bits.{bit_xor, xor_lt, xor_self}
use lib.Dec.{T, leb, leb→le}
use lib.ListN.{length-replicate, replicate-append-replicate}
use mir.Facts.{and_yes}
use Rattle.block.specs.Bits.{Bits, bits_of, xors, zeros}
use Rattle.block.specs.Division.{generator, step_bit, remainder_from, remainder}
use Rattle.block.proofs.Xor.{on_bit, xor_eq}
use Rattle.block.proofs.Linear.{rem_xor, step_is, step_lt}
use Rattle.block.proofs.Strings.{bits_zeros, bits_of_up, rem_append, rem_lt, rem_number, xors_zeros}

-- what the register holds, moved up by n zeros
abbrev pub up : ℕ → ℕ → ℕ
up n r = remainder_from r (zeros n)

pub up_on : (m n r : ℕ) → up n (up m r) ≡ up (m + n) r
up_on m n r = sym (rem_append (zeros m) (zeros n) r) ∙ ap (remainder_from r) (replicate-append-replicate m n 0)

pub up_lt : (n r : ℕ) → r < 8192 → up n r < 8192
up_lt n r h = rem_lt (zeros n) r h (bits_zeros n)

pub up_xor : (n r s : ℕ) → r < 8192 → s < 8192 → up n (bit_xor r s) ≡ bit_xor (up n r) (up n s)
up_xor n r s hr hs =
    let e : xors (zeros n) (zeros n) ≡ zeros n = rw length-replicate at (xors_zeros (zeros n)) in
    ap (remainder_from (bit_xor r s)) (sym e) ∙ rem_xor (zeros n) (zeros n) r s hr hs (bits_zeros n) (bits_zeros n) refl

-- a number that is a remainder, with n zeros behind its bits
pub up_number : (k n r : ℕ) → r < 2 ^ k → r < 8192 → remainder (bits_of (k + n) (r * 2 ^ n)) ≡ up n r
up_number k n r h l =
    ap remainder (bits_of_up k n r) ∙ rem_append (bits_of k r) (zeros n) 0 ∙ ap (up n) (rem_number k r h l)

-- a test that the checker computes: at each of n turns with a 0 the register holds the limit or more
abbrev pub above : ℕ → ℕ → ℕ → Bool
above limit zero r = true
above limit (suc n) r = leb limit (step_bit r 0) && above limit n (step_bit r 0)

pub at_above : (limit n r k : ℕ) → T (above limit n r) → k < n → limit ≤ up (suc k) r
unfolding remainder_from
at_above limit zero r k t h = absurd (omega arith)
at_above limit (suc n) r zero t h = leb→le limit (step_bit r 0) (and_yes (leb limit (step_bit r 0)) (above limit n (step_bit r 0)) t).0
at_above limit (suc n) r (suc k) t h = at_above limit n (step_bit r 0) k (and_yes (leb limit (step_bit r 0)) (above limit n (step_bit r 0)) t).1 (omega arith)

-- ---- backwards

-- the generator is odd, and what moved up one place is even
step_zero : (r : ℕ) → r < 8192 → step_bit r 0 ≡ 0 → r ≡ 0
step_zero r h e =
    let n : ℕ = r * 2 + 0 in
    on_bit (λ t. n ≡ t * generator → r ≡ 0) (λ d. omega arith) (λ d. omega arith) (n / 8192) (omega arith) (xor_eq n (n / 8192 * generator) (sym (step_is r 0 h (omega arith)) ∙ e))

pub up_zero : (n r : ℕ) → r < 8192 → up n r ≡ 0 → r ≡ 0
unfolding remainder_from
up_zero zero r h e = e
up_zero (suc n) r h e = step_zero r h (up_zero n (step_bit r 0) (step_lt r 0 h (omega arith)) e)

pub up_same : (n r s : ℕ) → r < 8192 → s < 8192 → up n r ≡ up n s → r ≡ s
up_same n r s hr hs e = xor_eq r s (up_zero n (bit_xor r s) (xor_lt 13 r s hr hs) (up_xor n r s hr hs ∙ ap (λ (x : ℕ). bit_xor x (up n s)) e ∙ xor_self (up n s)))

pub rem_back : (n : ℕ) (w : List ℕ) → Bits w → remainder (w ++ zeros n) ≡ 0 → remainder w ≡ 0
rem_back n w h e = up_zero n (remainder w) (rem_lt w 0 (omega arith) h) (sym (rem_append w (zeros n) 0) ∙ e)
