-- A change makes fifty bits good exactly where it makes the prefix 1 and leaves what they leave with their first bit inverted.
-- Assumes nothing.
use mathlib.Core.List.{List, [], ◌∷◌}
use mathlib.Core.Path.{◌≡◌, refl, sym, ap, ◌∙◌}
use Prim.Native.Nat.{ℕ, suc, ◌-◌, ◌/◌, ◌%◌, ◌^◌, ◌<◌}
use native.Mathlib.Nat.{div-add-mod'}
use native.Mathlib.Omega.{arith}
use lib.Bits.{bit_xor, xor_comm, xor_lt, xor_self}
use lib.ListN.{length}
use Rattle.block.specs.Bits.{Bits, bits_of, xors, zeros}
use Rattle.block.specs.Block.{Good, inverted, prefix_in}
use Rattle.block.specs.Division.{step_bit, remainder}
use Rattle.block.proofs.Inverted.{good_inverted, inverted_good}
use Rattle.block.proofs.Linear.{rem_xor}
use Rattle.block.proofs.Stream.{at_the_end}
use Rattle.block.proofs.Strings.{bits_bits_of, bits_xors, bits_of_xor, length_bits_of, length_xors, rem_lt, xors_comm, xors_zeros}
use Rattle.block.proofs.Xor.{xor_assoc, xor_eq}

-- ---- the first bit inverted

bits_inverted : (s : List ℕ) → Bits s → Bits (inverted s)
bits_inverted [] h = tt
bits_inverted (b ∷ s) h = (xor_lt 1 b 1 h.0 (omega arith), h.1)

length_inverted : (s : List ℕ) → length (inverted s) ≡ length s
length_inverted [] = refl
length_inverted (b ∷ s) = refl

inverted_xors : (s e : List ℕ) → length s ≡ length e → inverted (xors s e) ≡ xors (inverted s) e
unfolding xors
inverted_xors [] e l = refl
inverted_xors (b ∷ s) [] l = absurd (omega arith)
inverted_xors (b ∷ s) (c ∷ e) l =
    ap (λ (x : ℕ). x ∷ xors s e) (xor_assoc b c 1 ∙ ap (bit_xor b) (xor_comm c 1) ∙ sym (xor_assoc b 1 c))

-- zeros change nothing
pub xors_none : (s : List ℕ) → xors s (zeros (length s)) ≡ s
xors_none s = xors_comm s (zeros (length s)) ∙ xors_zeros s

-- a 1 added in the first place inverts it
one_added : (s : List ℕ) → xors s (1 ∷ zeros (length s - 1)) ≡ inverted s
unfolding xors
one_added [] = refl
one_added (b ∷ s) = let e : suc (length s) - 1 ≡ length s = omega arith in rw e (ap (λ (l : List ℕ). bit_xor b 1 ∷ l) (xors_none s))

-- which is place 49 of the number of fifty bits
first_place : bits_of 50 (2 ^ 49) ≡ 1 ∷ zeros 49
unfolding bits_of
first_place = refl

first_inverted : (n : ℕ) → bits_of 50 (bit_xor n (2 ^ 49)) ≡ inverted (bits_of 50 n)
first_inverted n =
    bits_of_xor 50 n (2 ^ 49)
    ∙ ap (xors (bits_of 50 n)) (first_place ∙ ap (λ (k : ℕ). 1 ∷ zeros (k - 1)) (sym (length_bits_of 50 n))) ∙ one_added (bits_of 50 n)

-- what fifty bits leave so: the last bit turns the circuit once more behind the others
pub inverted_left : (n : ℕ) → step_bit (remainder (bits_of 49 (bit_xor n (2 ^ 49) / 2))) (bit_xor n (2 ^ 49) % 2) ≡ remainder (inverted (bits_of 50 n))
inverted_left n =
    let m : ℕ = bit_xor n (2 ^ 49) in
    sym (at_the_end 49 (m / 2) (m % 2) (omega arith)) ∙ ap (λ (k : ℕ). remainder (bits_of 50 k)) (div-add-mod' m 2) ∙ ap remainder (first_inverted n)

pub left_lt : (n : ℕ) {r : ℕ} → r ≡ remainder (inverted (bits_of 50 n)) → r < 8192
left_lt n e = rw e (rem_lt (inverted (bits_of 50 n)) 0 (omega arith) (bits_inverted (bits_of 50 n) (bits_bits_of 50 n)))

-- ---- the change

module _ (s e : List ℕ) (ls : length s ≡ 50) (hs : Bits s) (le : length e ≡ 50) (he : Bits e) where
  left_sum : remainder (inverted (xors s e)) ≡ bit_xor (remainder (inverted s)) (remainder e)
  left_sum =
      ap remainder (inverted_xors s e (ls ∙ sym le))
      ∙ rem_xor (inverted s) e 0 0 (omega arith) (omega arith) (bits_inverted s hs) he (length_inverted s ∙ ls ∙ sym le)

  pub made_good : Good (xors s e) → remainder e ≡ remainder (inverted s)
  made_good g = sym (xor_eq (remainder (inverted s)) (remainder e) (sym left_sum ∙ (good_inverted (xors s e) g).1))

  pub makes_good : prefix_in (xors s e) ≡ 1 → remainder e ≡ remainder (inverted s) → Good (xors s e)
  makes_good p d =
      inverted_good (xors s e) (length_xors s e (ls ∙ sym le) ∙ ls) (bits_xors s e hs he)
      (p, left_sum ∙ ap (bit_xor (remainder (inverted s))) d ∙ xor_self (remainder (inverted s)))
