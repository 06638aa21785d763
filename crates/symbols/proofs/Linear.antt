-- The check symbols are linear: two codewords added are a codeword, and nine symbols have only one with them.
-- Assumes nothing.
use mathlib.Core.Bool.{Bool}
use mathlib.Core.List.{List, [], ◌∷◌, ◌++◌}
use mathlib.Core.Path.{◌≡◌, refl, sym, ap, ap₂, ◌∙◌, subst}
use Prim.Native.Nat.{ℕ, ◌+◌, ◌*◌, ◌/◌, ◌%◌, ◌^◌, ◌<◌, ◌≤◌}
use native.Mathlib.Nat.{mod-lt}
use native.Mathlib.Omega.{arith}
use lib.Bits.{bit_xor, xor_zero_r, xor_comm, xor_lt, xor_shifted}
use lib.Dec.{T, eqb, eqb→eq}
use lib.ListN.{get_or, length, take, drop, take-append-drop, length-drop}
use lib.Pow.{mod-pow-add, pow_pos}
use lib.Seq.{take_at, drop-append_seam}
use Rattle.block.specs.Bits.{xors}
use Rattle.block.proofs.Below.{below, at_below}
use Rattle.block.proofs.Strings.{length_xors}
use Rattle.field16.specs.Words.{Symbols, a_to, weight}
use Rattle.big_endian.specs.Digits.{digits, number}
use Rattle.big_endian.proofs.Digits.{Below, length_digits, digits_low, number_lt, digits_number, digits_xor}
use Rattle.field16.proofs.Digits.{below_symbols, symbols_digits}
use Rattle.field16.proofs.Distance.{weight_nil, weight_most}
use Rattle.field16.proofs.Words.{symbols_xors, at_xors}
use Rattle.symbols.specs.Code.{Codeword, differing, encode_from, checks_of, Checked}
use Rattle.symbols.proofs.Encoder.{encoded, length_checks, symbols_checks}
use Rattle.symbols.proofs.Unique.{differing_same, differing_weight, apart}

xors_append : (a b c d : List ℕ) → length a ≡ length c → xors (a ++ b) (c ++ d) ≡ xors a c ++ xors b d
unfolding xors
xors_append [] b [] d e = refl
xors_append [] b (y ∷ c) d e = absurd (omega arith)
xors_append (x ∷ a) b [] d e = absurd (omega arith)
xors_append (x ∷ a) b (y ∷ c) d e = ap (λ (l : List ℕ). bit_xor x y ∷ l) (xors_append a b c d (omega arith))

weight_length : (w : List ℕ) → weight w ≤ length w
weight_length [] = omega (arith, weight_nil)
weight_length (c ∷ cs) = omega (arith, weight_most c cs, weight_length cs)

differing_behind : (a b c : List ℕ) → differing (a ++ b) (a ++ c) ≡ differing b c
differing_behind [] b c = refl
differing_behind (x ∷ a) b c = differing_same x (a ++ b) (a ++ c) ∙ differing_behind a b c

-- a codeword is known by its first nine symbols
pub same_nine : (c d : List ℕ) → Codeword c → Codeword d → take 9 c ≡ take 9 d → c ≡ d
same_nine c d p q e =
    let lc : length (drop 9 c) ≡ 6 = length-drop 9 c ∙ omega (arith, p.size) in
    let l : length (drop 9 c) ≡ length (drop 9 d) = lc ∙ sym (length-drop 9 d ∙ omega (arith, q.size)) in
    let behind : differing c d ≡ differing (drop 9 c) (drop 9 d) =
    sym (ap₂ differing (take-append-drop 9 c) (ap (λ (l : List ℕ). l ++ drop 9 d) e ∙ take-append-drop 9 d)) ∙ differing_behind (take 9 c) (drop 9 c) (drop 9 d) in
    apart c d p q (omega (arith, behind, differing_weight (drop 9 c) (drop 9 d) l, weight_length (xors (drop 9 c) (drop 9 d)), length_xors (drop 9 c) (drop 9 d) l))

-- a sum of codewords is one
sum_code : (c d : List ℕ) → Codeword c → Codeword d → Codeword (xors c d)
sum_code c d p q =
    let l : length c ≡ length d = p.size ∙ sym q.size in
    record {
      size = length_xors c d l ∙ p.size;
      symbols = symbols_xors c d p.symbols q.symbols;
      roots = λ j i k. at_xors (a_to j) c d l ∙ ap₂ bit_xor (p.roots j i k) (q.roots j i k);
    }

module _ (u v : List ℕ) (lu : length u ≡ 9) (lv : length v ≡ 9) (su : Symbols u) (sv : Symbols v) where
  pub linear : xors (checks_of u) (checks_of v) ≡ checks_of (xors u v)
  linear =
      let l : length u ≡ length v = lu ∙ sym lv in
      let w : List ℕ = xors u v in
      let lw : length w ≡ 9 = length_xors u v l ∙ lu in
      let c : List ℕ = xors (checks_of u) (checks_of v) in
      let added : Codeword (w ++ c) = subst Codeword (xors_append u (checks_of u) v (checks_of v) l) (sum_code (u ++ checks_of u) (v ++ checks_of v) (encoded u lu su) (encoded v lv sv)) in
      sym (drop-append_seam w c)
      ∙ ap (drop (length w)) (same_nine (w ++ c) (w ++ checks_of w) added (encoded w lw (symbols_xors u v su sv)) (take_at w c 9 lw ∙ sym (take_at w (checks_of w) 9 lw)))
      ∙ drop-append_seam w (checks_of w)

pub checked_xor : (m n c d : ℕ) → Checked m c → Checked n d → Checked (bit_xor m n) (bit_xor c d)
checked_xor m n c d p q =
    record {
      small = xor_lt 24 c d p.small q.small;
      are = digits_xor 4 6 c d ∙ ap₂ xors p.are q.are
          ∙ linear (digits 4 9 m) (digits 4 9 n) (length_digits 4 9 m) (length_digits 4 9 n) (symbols_digits 9 m) (symbols_digits 9 n)
          ∙ ap checks_of (sym (digits_xor 4 9 m n));
    }

pub checked_zero : Checked 0 0
unfolding digits encode_from
checked_zero = record { small = omega arith; are = refl }

-- one bit more asks for its number, or for nothing
module _ (n k c : ℕ) (p : Checked (n % 2 ^ k) c) where
  low : ℕ
  low = n % 2 ^ k

  -- the bit stands above the others
  joined : (b : ℕ) → n / 2 ^ k % 2 ≡ b → n % 2 ^ (k + 1) ≡ bit_xor low (b * 2 ^ k)
  unfolding low
  joined b e =
      let next : 1 + k ≡ k + 1 = omega arith in
      ap (λ (m : ℕ). n % 2 ^ m) (sym next) ∙ mod-pow-add n 1 k ∙ sym (xor_shifted (n / 2 ^ k % 2) k low (mod-lt n (pow_pos k)))
      ∙ xor_comm (n / 2 ^ k % 2 * 2 ^ k) low ∙ ap (λ (b : ℕ). bit_xor low (b * 2 ^ k)) e

  pub bit_set : (asks : ℕ) → Checked (2 ^ k) asks → n / 2 ^ k % 2 ≡ 1 → Checked (n % 2 ^ (k + 1)) (bit_xor c asks)
  unfolding low
  bit_set asks q e = let one : 1 * 2 ^ k ≡ 2 ^ k = omega arith in rw (joined 1 e, one) (checked_xor low (2 ^ k) c asks p q)

  pub bit_clear : (n / 2 ^ k % 2 ≡ 1 → ⊥) → Checked (n % 2 ^ (k + 1)) c
  unfolding low
  bit_clear f =
      let none : 0 * 2 ^ k ≡ 0 = omega arith in
      let zero? : n / 2 ^ k % 2 ≡ 0 = omega arith in
      rw (joined 0 zero?, none, xor_zero_r low) p

-- and only the lowest nine count
pub checked_low : (n c : ℕ) → Checked (n % 2 ^ 36) c → Checked n c
checked_low n c p = record { small = p.small; are = p.are ∙ ap checks_of (digits_low 4 9 n) }

-- a number is the check symbols of another
abbrev is_asked : ℕ → ℕ → Bool
is_asked n c = eqb c (number 4 (checks_of (digits 4 9 n)))

-- the check symbols as one number
pub checked_number : (n : ℕ) → Checked n (number 4 (checks_of (digits 4 9 n)))
checked_number n =
    let l : List ℕ = checks_of (digits 4 9 n) in
    let b : Below (2 ^ 4) l = below_symbols l (symbols_checks (digits 4 9 n)) in
    let k : length l ≡ 6 = length_checks (digits 4 9 n) in
    record {
      small = subst (λ (m : ℕ). number 4 l < 2 ^ (4 * m)) k (number_lt 4 l b);
      are = subst (λ (m : ℕ). digits 4 m (number 4 l) ≡ l) k (digits_number 4 l b);
    }

asked_is : (n c : ℕ) → T (is_asked n c) → Checked n c
asked_is n c t = subst (Checked n) (sym (eqb→eq c (number 4 (checks_of (digits 4 9 n))) t)) (checked_number n)

-- the numbers of all the places are what their bits ask for: one test that the checker computes
unfoldable pub all_asked : List ℕ → Bool
unfolding digits number encode_from
all_asked numbers = below 36 (λ k. is_asked (2 ^ k) (get_or numbers k 0))

pub asked : (numbers : List ℕ) → T (all_asked numbers) → (k : ℕ) → k < 36 → Checked (2 ^ k) (get_or numbers k 0)
unfolding all_asked
asked numbers t k h = asked_is (2 ^ k) (get_or numbers k 0) (at_below 36 (λ k. is_asked (2 ^ k) (get_or numbers k 0)) t k h)
