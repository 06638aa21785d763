-- Joining moves the first remainder up past the second string and adds the second's, and so its laws are those of zeros and of the sum.
-- Assumes nothing.
use Rattle.std.specs.Prelude.{Result, Ok}
use mathlib.Core.Bool.{Bool, true, false}
use mathlib.Core.List.{List, ◌++◌}
use mathlib.Core.Path.{◌≡◌, refl, sym, ap, ap₂, ◌∙◌}
use Prim.Native.Nat.{ℕ, ◌+◌, ◌<◌, ◌≤◌}
use native.Mathlib.Omega.{arith}
use borrow.Author.Tests.{lt-ltb, ltb-true, le-leb, leb-true}
use lib.Bits.{bit_xor, xor_lt, xor_zero_l, xor_zero_r}
use lib.Dec.{ltb, leb}
use lib.ListN.{length, length-append}
use Rattle.refusal.specs.declared.Refusal.{Refusal}
use Rattle.refusal.specs.declared.Refusal.TheVariants.{NotABit, StringTooLong, NotARemainder}
use Rattle.block.specs.Bits.{Bits, are_bits}
use Rattle.block.specs.Division.{remainder_from, remainder}
use Rattle.block.proofs.Linear.{rem_xor}
use Rattle.block.proofs.Strings.{are_bits_lem, bits_append, bits_are, rem_append, rem_lt, rem_split}
use Rattle.block.proofs.Xor.{xor_assoc}
use Rattle.block.proofs.Zeros.{up, up_on, up_lt, up_xor}
use Rattle.joining.specs.Joining.{must, remainder_of, join_of, remainder_in}
use Rattle.joining.specs.Laws.{Joins, CallsAgree, JoiningLaw}
use Rattle.joining.proofs.Multiples.{up_none}
use Rattle.joining.proofs.Powers.{times_power}

-- a remainder came through a test only where the test held
passed : (t : Bool) (refusal : Refusal) (answer : Result ℕ Refusal) {r : ℕ} → must t refusal answer ≡ Ok r → (t ≡ true) × (answer ≡ Ok r)
passed true refusal answer e = (refl, e)
passed false refusal answer e = cc

-- ---- what joining takes, and what it gives then

record Joined (a b n ab : ℕ) : Type 0 where
  pub length : n ≤ 65536
  pub first : a < 8192
  pub second : b < 8192
  pub whole : ab ≡ bit_xor (up n a) b

whole_lt : {a b n ab : ℕ} → Joined a b n ab → ab < 8192
whole_lt {a} {b} {n} j = rw j.whole (xor_lt 13 (up n a) b (up_lt n a j.first) j.second)

taken : {a b n ab : ℕ} → Joined a b n ab → join_of a b n ≡ Ok ab
unfolding join_of
taken {a} {b} {n} j =
    rw (le-leb n 65536 j.length, lt-ltb a 8192 j.first, lt-ltb b 8192 j.second, j.whole)
    (ap (λ (r : ℕ). Ok (bit_xor r b)) (times_power n a j.first))

gives : (a b n ab : ℕ) → join_of a b n ≡ Ok ab → Joined a b n ab
unfolding join_of
gives a b n ab e =
    let size = passed (leb n 65536) StringTooLong _ e in
    let one = passed (ltb a 8192) NotARemainder _ size.1 in
    let other = passed (ltb b 8192) NotARemainder _ one.1 in
    let first : a < 8192 = ltb-true a 8192 one.0 in
    record {
      length = leb-true n 65536 size.0;
      first = first;
      second = ltb-true b 8192 other.0;
      whole = ap remainder_in (sym other.1) ∙ ap (λ (r : ℕ). bit_xor r b) (times_power n a first);
    }

pub joins : Joins
joins xs ys hx hy l =
    let first : remainder xs < 8192 = rem_lt xs 0 (omega arith) hx in
    taken
    record {
      length = l;
      first = first;
      second = rem_lt ys 0 (omega arith) hy;
      whole = rem_append xs ys 0 ∙ rem_split ys (remainder xs) first hy;
    }

-- ---- the two calls

told : (s : List ℕ) → length s ≤ 65536 → Bits s → remainder_of s ≡ Ok (remainder s)
unfolding remainder_of
told s l h = rw (le-leb (length s) 65536 l, bits_are s h)

-- what is told is told of bits
of_bits : (s : List ℕ) (a : ℕ) → remainder_of s ≡ Ok a → Bits s × (a ≡ remainder s)
unfolding remainder_of
of_bits s a e =
    let size = passed (leb (length s) 65536) StringTooLong _ e in
    let bits = passed (are_bits s) NotABit _ size.1 in
    (are_bits_lem s bits.0, ap remainder_in (sym bits.1))

pub calls_agree : CallsAgree
calls_agree xs ys a b l d e =
    let x = of_bits xs a d in
    let y = of_bits ys b e in
    ap₂ (λ (r s : ℕ). join_of r s (length ys)) x.1 y.1 ∙ joins xs ys x.0 y.0 (omega (arith, length-append xs ys))
    ∙ sym (told (xs ++ ys) l (bits_append xs ys x.0 y.0))

-- ---- the law

-- three joined, whichever two first
module _ (a b c m n ab bc : ℕ) (l : m + n ≤ 65536) (x : Joined a b m ab) (y : Joined b c n bc) where
  same : bit_xor (up n ab) c ≡ bit_xor (up (m + n) a) bc
  same =
      ap (λ (r : ℕ). bit_xor (up n r) c) x.whole
      ∙ ap (λ (r : ℕ). bit_xor r c) (up_xor n (up m a) b (up_lt m a x.first) x.second ∙ ap (λ (r : ℕ). bit_xor r (up n b)) (up_on m n a))
      ∙ xor_assoc (up (m + n) a) (up n b) c ∙ ap (bit_xor (up (m + n) a)) (sym y.whole)

  either_first : join_of ab c n ≡ join_of a bc (m + n)
  either_first =
      taken record { length = y.length; first = whole_lt x; second = y.second; whole = refl } ∙ ap Ok same
      ∙ sym (taken record { length = l; first = x.first; second = whole_lt y; whole = refl })

pub joining_law : JoiningLaw
unfolding remainder_from
joining_law =
    record {
      closed = λ a b n ab e. whole_lt (gives a b n ab e);
      associative = λ a b c m n ab bc l d e. either_first a b c m n ab bc l (gives a b m ab d) (gives b c n bc e);
      empty_first =
          λ r n h l.
          taken record { length = l; first = omega arith; second = h; whole = sym (ap (λ (s : ℕ). bit_xor s r) (up_none n) ∙ xor_zero_l r) };
      empty_second =
          λ r h. taken record { length = omega arith; first = h; second = omega arith; whole = sym (xor_zero_r r) };
      sums = λ xs ys hx hy e. rem_xor xs ys 0 0 (omega arith) (omega arith) hx hy e;
    }
