-- Three symbols at three places have the power sums that they were computed from: taking two places away leaves the third's powers on both sides,
-- and each step back is fixed by one number.
-- Assumes nothing.
use mathlib.Core.Bool.{true, ◌||◌, and-eq-true_iff}
use mathlib.Core.List.{List, [], ◌∷◌}
use mathlib.Core.Path.{◌≡◌, refl, sym, ap, ap₂, ◌∙◌}
use Prim.Native.Nat.{ℕ, zero, suc, ◌<◌, ◌≤◌}
use native.Mathlib.Omega.{arith}
use lib.Bits.{bit_xor, xor_self, xor_lt}
use lib.Dec.{eqb}
use lib.ListN.{length, get_or}
use Rattle.block.specs.Bits.{xors, zeros}
use Rattle.block.proofs.Strings.{length_xors}
use Rattle.field16.specs.Words.{Symbols, a_to, at, weight}
use Rattle.big_endian.specs.Digits.{digits}
use Rattle.field16.specs.Field.{times, power}
use Rattle.big_endian.proofs.Digits.{length_digits, digits_xor}
use Rattle.field16.proofs.Words.{away, at_xors, xor_twice}
use Rattle.field16.proofs.Distance.{weight_xors}
use Rattle.power_sums.specs.Sums.{sums_from, six_sums, take_away, goes_on, third_of, apart, fits}
use Rattle.power_sums.proofs.Lists.{symbols_get_or, symbols_take_away, third_lt, sums_away, length_take_away, length_sums}
use Rattle.wrong_symbols.specs.Search.{Single, last_of, middle_of, first_of, Found}
use Rattle.wrong_symbols.specs.Explained.{Mistakes}
use Rattle.wrong_symbols.specs.declared.search.Places.{Places}
use Rattle.wrong_symbols.proofs.Filter.{goes_on_lem}
use Rattle.wrong_symbols.proofs.Terms.{term_gone, value_away, once, twice}
use Rattle.wrong_symbols.proofs.Fitting.{fitting, third_pos}
use Rattle.wrong_symbols.proofs.Values.{last_back, middle_back, first_back}

-- numbers with the same first one that leave the same when a place is taken away are the same
pub same_sums : (x : ℕ) (l m : List ℕ) → length l ≡ length m → get_or l 0 0 ≡ get_or m 0 0 → take_away x l ≡ take_away x m → l ≡ m
unfolding take_away
same_sums x [] [] e h t = refl
same_sums x [] (b ∷ m) e h t = absurd (omega arith)
same_sums x (a ∷ l) [] e h t = absurd (omega arith)
same_sums x (a ∷ []) (b ∷ []) e h t = ap (λ (n : ℕ). n ∷ []) h
same_sums x (a ∷ []) (b ∷ d ∷ m) e h t = absurd (omega arith)
same_sums x (a ∷ c ∷ l) (b ∷ []) e h t = absurd (omega arith)
same_sums x (a ∷ c ∷ l) (b ∷ d ∷ m) e h t =
    let heads : bit_xor c (times x a) ≡ bit_xor d (times x b) = cc in
    let tails : take_away x (c ∷ l) ≡ take_away x (d ∷ m) = cc in
    let next : c ≡ d = sym (xor_twice c (times x a)) ∙ ap₂ bit_xor heads (ap (times x) h) ∙ xor_twice d (times x b) in
    ap₂ (λ (n : ℕ) (r : List ℕ). n ∷ r) h (same_sums x (c ∷ l) (d ∷ m) (omega arith) next tails)

head_sums : (k : ℕ) (w : List ℕ) → get_or (sums_from 1 (suc k) w) 0 0 ≡ at (a_to 1) w
unfolding sums_from
head_sums k w = refl

-- of numbers that go on by z nothing is left when z is taken away
goes_gone : (z k : ℕ) (s : List ℕ) → length s ≡ suc k → goes_on z s ≡ true → take_away z s ≡ zeros k
unfolding take_away
goes_gone z k [] e g = absurd (omega arith)
goes_gone z k (s ∷ []) e g = ap zeros (let i : 0 ≡ k = omega arith in i)
goes_gone z zero (s ∷ t ∷ ts) e g = absurd (omega arith)
goes_gone z (suc k) (s ∷ t ∷ ts) e g =
    let f = goes_on_lem z s t ts g in
    ap₂ (λ (n : ℕ) (r : List ℕ). n ∷ r) (ap (λ (n : ℕ). bit_xor n (times z s)) f.0 ∙ xor_self (times z s)) (goes_gone z k (t ∷ ts) (omega arith) f.1)

sums_zero : (n k : ℕ) (w : List ℕ) → ((j : ℕ) → at (a_to j) w ≡ 0) → sums_from n k w ≡ zeros k
unfolding sums_from
sums_zero n zero w f = refl
sums_zero n (suc k) w f = ap₂ (λ (n : ℕ) (r : List ℕ). n ∷ r) (f n) (sums_zero (suc n) k w f)

-- the word of the three symbols has the power sums
module _ (s : List ℕ) (x y : ℕ) (l : length s ≡ 6) (symbols : Symbols s) (px : 0 < x) (hx : x < 16) (py : 0 < y) (hy : y < 16) (differ : y ≡ x → ⊥)
    (f : fits x y (take_away y (take_away x s)) ≡ true) where
  abbrev t : List ℕ
  t = take_away x s

  abbrev u : List ℕ
  u = take_away y t

  abbrev z : ℕ
  z = third_of u

  module _ (a b c : ℕ) (e : List ℕ)
      (values : (j : ℕ) → at (a_to j) e ≡ bit_xor (times a (power x j)) (bit_xor (times b (power y j)) (times c (power z j))))
      (ha : a ≡ first_of x y z (get_or s 0 0) b c) (hb : b ≡ middle_of x y z (get_or t 0 0) c) (hc : c ≡ last_of x y z (get_or u 0 0)) where
    goes : goes_on z u ≡ true
    unfolding fits
    goes = ((and-eq-true_iff (goes_on z u) (eqb (get_or u 0 0) 0 || apart z x y)).0 f).0

    gone : (j : ℕ) → at (a_to j) (away z (away y (away x e))) ≡ 0
    unfolding power
    gone j =
        value_away z j (away y (away x e)) ∙ ap₂ (λ (m n : ℕ). bit_xor m (times z n)) (twice x y z a b c e values (suc j)) (twice x y z a b c e values j)
        ∙ term_gone (times (times c (bit_xor z x)) (bit_xor z y)) z (power z j)

    third_sums : sums_from 1 4 (away y (away x e)) ≡ u
    third_sums =
        let v : List ℕ = away y (away x e) in
        let lu : length u ≡ 4 = length_take_away y 4 t (length_take_away x 5 s l) in
        same_sums z (sums_from 1 4 v) u (length_sums 1 4 v ∙ sym lu)
        (head_sums 3 v ∙ twice x y z a b c e values 1
        ∙ last_back x y z hx hy (third_lt u) (get_or u 0 0) c u (symbols_get_or u 0 (symbols_take_away y t (symbols_take_away x s symbols))) refl (fitting x y u f) hc)
        (sums_away z 1 3 v ∙ sums_zero 1 3 (away z v) gone ∙ sym (goes_gone z 3 u lu goes))

    second_sums : sums_from 1 5 (away x e) ≡ t
    second_sums =
        same_sums y (sums_from 1 5 (away x e)) t (length_sums 1 5 (away x e) ∙ sym (length_take_away x 5 s l))
        (head_sums 4 (away x e) ∙ once x y z a b c e values 1 ∙ middle_back x y z hx hy (third_lt u) (get_or t 0 0) b c (symbols_get_or t 0 (symbols_take_away x s symbols)) py differ hb)
        (sums_away y 1 4 (away x e) ∙ third_sums)

    pub right_sums : six_sums e ≡ s
    right_sums =
        same_sums x (six_sums e) s (length_sums 1 6 e ∙ sym l)
        (head_sums 5 e ∙ values 1 ∙ first_back x y z hx hy (third_lt u) (get_or s 0 0) a b c (symbols_get_or s 0 symbols) px ha) (sums_away x 1 5 e ∙ second_sums)

-- three symbols at three places as one number
module _ (x y z a b c k m n : ℕ) (p : Single x a k) (q : Single y b m) (r : Single z c n) where
  whole : digits 4 15 (bit_xor k (bit_xor m n)) ≡ xors (digits 4 15 k) (xors (digits 4 15 m) (digits 4 15 n))
  whole = digits_xor 4 15 k (bit_xor m n) ∙ ap (xors (digits 4 15 k)) (digits_xor 4 15 m n)

  three_few : weight (digits 4 15 (bit_xor k (bit_xor m n))) ≤ 3
  three_few =
      let d : List ℕ = digits 4 15 k in
      let e : List ℕ = digits 4 15 m in
      let f : List ℕ = digits 4 15 n in
      rw whole (omega (arith, weight_xors d (xors e f), weight_xors e f, p.few, q.few, r.few))

  three_values : (j : ℕ) → at (a_to j) (digits 4 15 (bit_xor k (bit_xor m n))) ≡ bit_xor (times a (power x j)) (bit_xor (times b (power y j)) (times c (power z j)))
  three_values j =
      let d : List ℕ = digits 4 15 k in
      let e : List ℕ = digits 4 15 m in
      let f : List ℕ = digits 4 15 n in
      let le : length e ≡ 15 = length_digits 4 15 m in
      let lf : length f ≡ 15 = length_digits 4 15 n in
      ap (at (a_to j)) whole ∙ at_xors (a_to j) d (xors e f) (length_digits 4 15 k ∙ sym (length_xors e f (le ∙ sym lf) ∙ le))
      ∙ ap₂ bit_xor (p.values j) (at_xors (a_to j) e f (le ∙ sym lf) ∙ ap₂ bit_xor (q.values j) (r.values j))

-- the symbols at two places that were found and at their third, computed as the search does
module _ (s t u : List ℕ) (places : Places) (z : ℕ) (l : length s ≡ 6) (symbols : Symbols s) (f : Found s places)
    (five : t ≡ take_away places.first s) (four : u ≡ take_away places.second t) (third-is : z ≡ third_of u) where
  abbrev x : ℕ
  x = places.first

  abbrev y : ℕ
  y = places.second

  pub third_place : z ≡ third_of (take_away y (take_away x s))
  third_place = third-is ∙ ap third_of (four ∙ ap (take_away y) five)

  pub third_some : 0 < z
  third_some = rw third_place (third_pos x y (take_away y (take_away x s)) f.fit)

  pub mistaken : (a b c k m n : ℕ) → Single x a k → Single y b m → Single z c n → a ≡ first_of x y z (get_or s 0 0) b c → b ≡ middle_of x y z (get_or t 0 0) c
      → c ≡ last_of x y z (get_or u 0 0) → Mistakes s (bit_xor k (bit_xor m n))
  mistaken a b c k m n p q r ha hb hc =
      record {
        fits = xor_lt 60 k (bit_xor m n) p.fits (xor_lt 60 m n q.fits r.fits);
        few = three_few x y z a b c k m n p q r;
        sums = right_sums s x y l symbols f.first.0 f.first.1 f.second.0 f.second.1 f.differ f.fit a b c (digits 4 15 (bit_xor k (bit_xor m n)))
            (λ j. three_values x y z a b c k m n p q r j ∙ ap (λ (w : ℕ). bit_xor (times a (power x j)) (bit_xor (times b (power y j)) (times c (power w j)))) third_place)
            (ha ∙ ap (λ (w : ℕ). first_of x y w (get_or s 0 0) b c) third_place)
            (hb ∙ ap₂ (λ (w : ℕ) (v : List ℕ). middle_of x y w (get_or v 0 0) c) third_place five)
            (hc ∙ ap₂ (λ (w : ℕ) (v : List ℕ). last_of x y w (get_or v 0 0)) third_place (four ∙ ap (take_away y) five));
      }
