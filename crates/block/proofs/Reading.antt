-- What reading answers, test by test, in terms of what the code looks at: the number of all fifty bits, and the division of those
-- behind the prefix.
-- Assumes nothing.
use mathlib.Core.Path.{◌≡◌, refl, sym, ap, ap₂, ◌∙◌, subst}
use mathlib.Core.Bool.{Bool, true, false}
use mathlib.Core.List.{List, ◌++◌}
use Prim.Native.Nat.{ℕ, ◌≤◌, ◌<◌, ◌+◌, ◌*◌, ◌/◌, ◌%◌, ◌^◌}
use native.Mathlib.Omega.{arith}
use borrow.Author.Tests.{eq-eqb, ne_eqb, eqb-true, eqb-false, leb-true, leb-false, lt-ltb, le-ltb}
use lib.Dec.{eqb, leb}
use lib.ListN.{length, take, drop, length-take, length-drop}
use lib.Seq.{take-add, drop-drop}
use Rattle.refusal.specs.declared.Refusal.TheVariants.{NotABit, WrongLength, WrongPrefix, WrongCheckWord, NumberTooWide}
use Rattle.block.specs.Bits.{Bits, are_bits, bits_of, value}
use Rattle.block.specs.Division.{remainder}
use Rattle.block.specs.Block.{Good, prefix_in, code_in, word_in, check_in, body_in, check_of}
use Rattle.block.specs.Packed.{read_packed, read_by}
use Rattle.block.specs.Read.{carried, read_of, refused}
use Rattle.block.proofs.Strings.{next, parts, are_bits_lem, bits_are, bits_at, bits_take, bits_drop, bits_bits_of, length_bits_of, bits_of_first, bits_of_val, val_bits_of, val_cons, val_lt, val_top, val_low}
use Rattle.block.proofs.CheckWord.{check_none, none_check, good_rem}
use Rattle.block.proofs.Inverted.{without}

module _ (s : List ℕ) where
  pub wrong_length : (length s ≡ 50 → ⊥) → refused WrongLength 0 ≡ read_of s
  unfolding read_of
  wrong_length h = simp (ne_eqb (length s) 50 h)

  module _ (l : length s ≡ 50) where
    pub not_a_bit : are_bits s ≡ false → refused NotABit 0 ≡ read_of s
    unfolding read_of
    not_a_bit h = simp (eq-eqb (length s) 50 l, h)

    module _ (a : are_bits s ≡ true) where
      pub wrong_prefix : (prefix_in s ≡ 1 → ⊥) → refused WrongPrefix 0 ≡ read_of s
      unfolding read_of
      wrong_prefix h = simp (eq-eqb (length s) 50 l, a, ne_eqb (prefix_in s) 1 h)

      module _ (p : prefix_in s ≡ 1) where
        pub wrong_check_word : (remainder (drop 1 s) ≡ 0 → ⊥) → refused WrongCheckWord (remainder (drop 1 s)) ≡ read_of s
        unfolding read_of
        wrong_check_word h =
            simp (eq-eqb (length s) 50 l, a, eq-eqb (prefix_in s) 1 p, ne_eqb (value (check_in s)) (check_of (body_in s)) (λ e. h (check_none s l (are_bits_lem s a) e)), without s p)

        pub a_block : remainder (drop 1 s) ≡ 0 → carried (value (code_in s)) (value (word_in s)) ≡ read_of s
        unfolding read_of
        a_block h =
            simp (eq-eqb (length s) 50 l, a, eq-eqb (prefix_in s) 1 p, eq-eqb (value (check_in s)) (check_of (body_in s)) (none_check s l (are_bits_lem s a) h))

pub good_reads : (s : List ℕ) → Good s → carried (value (code_in s)) (value (word_in s)) ≡ read_of s
good_reads s g = a_block s g.size (bits_are s g.bits) g.prefix (good_rem s g)

-- the number of all fifty bits holds the prefix above the code above the word above the check word
module _ (s : List ℕ) (l : length s ≡ 50) (h : Bits s) where
  rest_length : length (drop 1 s) ≡ 49
  rest_length = omega (arith, length-drop 1 s)

  rest_lt : value (drop 1 s) < 2 ^ 49
  rest_lt = subst (λ (n : ℕ). value (drop 1 s) < 2 ^ n) rest_length (val_lt (drop 1 s) (bits_drop 1 s h))

  prefix_in_lem : value s ≡ prefix_in s * 2 ^ 49 + value (drop 1 s)
  prefix_in_lem = ap value (next s 0 (omega arith)) ∙ val_cons (prefix_in s) (drop 1 s) ∙ ap (λ (n : ℕ). prefix_in s * 2 ^ n + value (drop 1 s)) rest_length

  prefix_one : 2 ^ 49 ≤ value s → prefix_in s ≡ 1
  prefix_one g = omega (arith, prefix_in_lem, rest_lt, bits_at s 0 h)

  code_in_lem : value s / 2 ^ 45 % 16 ≡ value (code_in s)
  code_in_lem =
      let e : value s / 2 ^ 45 % 16 ≡ value (drop 1 s) / 2 ^ 45 = omega (arith, prefix_in_lem, rest_lt) in
      e ∙ ap (λ (t : List ℕ). value t / 2 ^ 45) (parts s 1 4) ∙ val_top (code_in s) (drop 5 s) 45 (omega (arith, length-drop 5 s)) (bits_drop 5 s h)

  pub body_is : body_in s ≡ code_in s ++ word_in s
  body_is = take-add 4 32 (drop 1 s) ∙ ap (λ (t : List ℕ). code_in s ++ take 32 t) (drop-drop 4 1 s)

  word_in_lem : value s / 2 ^ 13 % 2 ^ 32 ≡ value (word_in s)
  word_in_lem =
      let e : value s / 2 ^ 13 % 2 ^ 32 ≡ value (drop 1 s) / 2 ^ 13 % 2 ^ 32 = omega (arith, prefix_in_lem) in
      e ∙ ap (λ (n : ℕ). n % 2 ^ 32)
      (ap (λ (t : List ℕ). value t / 2 ^ 13) (parts s 1 36) ∙ val_top (body_in s) (check_in s) 13 (omega (arith, length-drop 37 s)) (bits_drop 37 s h))
      ∙ ap (λ (t : List ℕ). value t % 2 ^ 32) body_is
      ∙ val_low (code_in s) (word_in s) 32 (simp (length-take, length-drop) (omega arith)) (bits_take 32 (drop 5 s) (bits_drop 5 s h))

-- so this number and what is left of the bits behind the prefix decide
module _ (s : List ℕ) (l : length s ≡ 50) (a : are_bits s ≡ true) (n left : ℕ) (e : n ≡ value s) (d : left ≡ remainder (drop 1 s)) where
  prefix : leb (2 ^ 49) n ≡ true → prefix_in s ≡ 1
  prefix k = prefix_one s l (are_bits_lem s a) (omega (arith, leb-true (2 ^ 49) n k))

  said : carried (n / 2 ^ 45 % 16) (n / 2 ^ 13 % 2 ^ 32) ≡ carried (value (code_in s)) (value (word_in s))
  said = ap₂ carried (ap (λ (m : ℕ). m / 2 ^ 45 % 16) e ∙ code_in_lem s l (are_bits_lem s a)) (ap (λ (m : ℕ). m / 2 ^ 13 % 2 ^ 32) e ∙ word_in_lem s l (are_bits_lem s a))

  by_number : read_by n left ≡ read_of s
  unfolding read_by
  by_number = by (leb (2 ^ 49) n) (eqb left 0) refl refl
    where
      by : (high none : Bool) → leb (2 ^ 49) n ≡ high → eqb left 0 ≡ none → read_by n left ≡ read_of s
      by false none k z = rw k (wrong_prefix s l a (λ p. omega (arith, e, p, leb-false (2 ^ 49) n k, prefix_in_lem s l (are_bits_lem s a))))
      by true false k z = rw (k, z) (ap (refused WrongCheckWord) d ∙ wrong_check_word s l a (prefix k) (λ q. eqb-false left 0 z (d ∙ q)))
      by true true k z = rw (k, z) (said ∙ a_block s l a (prefix k) (sym d ∙ eqb-true left 0 z))

pub number_reads : (n : ℕ) → n < 2 ^ 50 → read_by n (remainder (bits_of 49 n)) ≡ read_of (bits_of 50 n)
number_reads n h =
    by_number (bits_of 50 n) (length_bits_of 50 n) (bits_are (bits_of 50 n) (bits_bits_of 50 n)) n (remainder (bits_of 49 n)) (sym (val_bits_of 50 n h))
    (ap (λ (t : List ℕ). remainder (drop 1 t)) (sym (bits_of_first 49 n)))

-- ---- as one number

pub wide : (n : ℕ) → 2 ^ 50 ≤ n → refused NumberTooWide 0 ≡ read_packed n
unfolding read_packed
wide n h = rw (le-ltb n (2 ^ 50) h)

pub reads_as : (n : ℕ) → n < 2 ^ 50 → read_packed n ≡ read_of (bits_of 50 n)
unfolding read_packed
reads_as n h = rw (lt-ltb n (2 ^ 50) h)

-- the number of fifty bits reads as they do
pub packed_reads : (s : List ℕ) → length s ≡ 50 → Bits s → read_packed (value s) ≡ read_of s
packed_reads s l h = reads_as (value s) (subst (λ (k : ℕ). value s < 2 ^ k) l (val_lt s h)) ∙ ap read_of (bits_of_val 50 s h l)
