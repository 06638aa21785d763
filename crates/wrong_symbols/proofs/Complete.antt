-- Where a word has at most three symbols that are not 0, two of their places taken away from its power sums leave what a third place makes.
-- Assumes nothing.
use mathlib.Core.Bool.{Bool, true, false, cond, true≢false}
use mathlib.Core.List.{List, [], ◌∷◌}
use mathlib.Core.Path.{◌≡◌, refl, sym, ap, ◌∙◌, subst}
use Rattle.std.specs.Prelude.{None}
use Prim.Native.Nat.{ℕ, zero, suc, ◌<◌, ◌≤◌}
use borrow.Author.Tests.{eq-eqb, ne_eqb}
use native.Mathlib.Omega.{arith}
use lib.Bits.{bit_xor, xor_zero_l}
use lib.Dec.{eqb}
use lib.ListN.{length}
use Rattle.field16.specs.Words.{Symbols, a_to, at, weight}
use Rattle.field16.specs.Field.{times, power, inverse_of}
use Rattle.field16.proofs.Elements.{times_comm, times_assoc, times_one, power_lt, times_inverse}
use Rattle.field16.proofs.Words.{away, length_away, symbols_away, next_sum, at_lt}
use Rattle.field16.proofs.Distance.{positive, power_pos, at_weightless, vanishing}
use Rattle.power_sums.specs.Sums.{sums_from, six_sums, take_away, goes_on, third_of, fits}
use Rattle.power_sums.proofs.Lists.{sums_away}
use Rattle.wrong_symbols.specs.Search.{Second}
use Rattle.wrong_symbols.proofs.Places.{Pick, none, place, pick, symbol_at, weight_le, alive_before, alive_other}

-- the powers of a place
abbrev powers : ℕ → ℕ → List ℕ
powers X c = c ∷ times X c ∷ times X (times X c) ∷ times X (times X (times X c)) ∷ []

fits_zero : (x y : ℕ) → fits x y (0 ∷ 0 ∷ 0 ∷ 0 ∷ []) ≡ true
unfolding fits
fits_zero x y = refl

fits_powers : (x y X c : ℕ) → X < 16 → 0 < X → (X ≡ x → ⊥) → (X ≡ y → ⊥) → c < 16 → 0 < c → fits x y (powers X c) ≡ true
unfolding fits goes_on third_of
fits_powers x y X c hX pX fx fy hc pc =
    let z : X ≡ 0 → ⊥ = λ e. omega arith in
    let third : cond (eqb c 0) 1 (times (times X c) (inverse_of c)) ≡ X =
    ap (λ (q : Bool). cond q 1 (times (times X c) (inverse_of c))) (ne_eqb c 0 (λ e. omega arith))
    ∙ sym (times_assoc X c (inverse_of c)) ∙ ap (times X) (times_inverse c hc pc) ∙ times_comm X 1 ∙ times_one X hX in
    rw (
      third,
      eq-eqb (times X c) (times X c) refl,
      eq-eqb (times X (times X c)) (times X (times X c)) refl,
      eq-eqb (times X (times X (times X c))) (times X (times X (times X c))) refl,
      ne_eqb c 0 (λ e. omega arith),
      ne_eqb X 0 z,
      ne_eqb X x fx,
      ne_eqb X y fy,
    )

module _ (v : List ℕ) where
  all_zero : weight v ≡ 0 → sums_from 1 4 v ≡ 0 ∷ 0 ∷ 0 ∷ 0 ∷ []
  unfolding sums_from
  all_zero e = rw (at_weightless (a_to 1) v e, at_weightless (a_to 2) v e, at_weightless (a_to 3) v e, at_weightless (a_to 4) v e)

  module _ (X : ℕ) (gone : weight (away X v) ≡ 0) where
    next : (n : ℕ) → at (a_to (suc n)) v ≡ times X (at (a_to n) v)
    unfolding power
    next n =
        next_sum (a_to n) X v ∙ ap (λ (s : ℕ). bit_xor s (times X (at (a_to n) v))) (at_weightless (a_to n) (away X v) gone)
        ∙ xor_zero_l (times X (at (a_to n) v))

    as_powers : sums_from 1 4 v ≡ powers X (at (a_to 1) v)
    unfolding sums_from
    as_powers = rw (next 3, next 2, next 1)

-- one symbol at most is left: a third place explains it, if it is neither of the two
third_fits : (x y : ℕ) (v : List ℕ) → length v ≤ 15 → Symbols v → weight v ≤ 1 → ((p : ℕ) → 0 < symbol_at p v → (a_to p ≡ x → ⊥) × (a_to p ≡ y → ⊥))
    → Pick v → fits x y (sums_from 1 4 v) ≡ true
third_fits x y v l s few other (none e) = ap (fits x y) (all_zero v e) ∙ fits_zero x y
third_fits x y v l s few other (place p h alive less) =
    let X : ℕ = a_to p in
    let pX : 0 < X = power_pos 2 p (omega arith) (omega arith) in
    let here : 0 < at (a_to 1) v =
    positive (at (a_to 1) v)
    (λ e. omega (arith, vanishing (length v) 1 v refl l s few (λ j i k. let one : 1 ≡ j = omega arith in ap (λ (j : ℕ). at (a_to j) v) (sym one) ∙ e))) in
    ap (fits x y) (as_powers v X (omega arith))
    ∙ fits_powers x y X (at (a_to 1) v) (power_lt 2 p) pX (other p alive).0 (other p alive).1 (at_lt (a_to 1) v) here

-- what is not so is false
pub refuted : (q : Bool) → (q ≡ true → ⊥) → q ≡ false
refuted true f = absurd (f refl)
refuted false f = refl

pub true_false : {q : Bool} → q ≡ true → q ≡ false → ⊥
true_false e f = true≢false (sym e ∙ f)

module _ (x : ℕ) (w : List ℕ) (l : length w ≡ 15) (other : (p : ℕ) → 0 < symbol_at p w → a_to p ≡ x → ⊥) (missing : Second (sums_from 1 5 w) x None) where
  -- a second place that leaves one symbol at most is not missed
  not_missed : (z : ℕ) → 0 < z → z < 16 → (z ≡ x → ⊥) → weight (away z w) ≤ 1 → ⊥
  not_missed z pz hz f few =
      true_false
      (ap (fits x z) (sums_away z 1 4 w)
      ∙ third_fits x z (away z w) (omega (arith, length_away z w)) (symbols_away z w) few
      (λ p alive. (other p (alive_before p z w alive), alive_other p z w alive)) (pick (away z w)))
      (missing z pz hz f)

  second_missed : weight w ≤ 2 → Pick w → ⊥
  second_missed few (none e) = elsewhere x refl
    where
      elsewhere : (n : ℕ) → x ≡ n → ⊥
      elsewhere (suc zero) d = not_missed 2 (omega arith) (omega arith) (λ c. omega arith) (omega (arith, weight_le 2 w))
      elsewhere zero d = not_missed 1 (omega arith) (omega arith) (λ c. omega arith) (omega (arith, weight_le 1 w))
      elsewhere (suc (suc n)) d = not_missed 1 (omega arith) (omega arith) (λ c. omega arith) (omega (arith, weight_le 1 w))
  second_missed few (place p h alive less) = not_missed (a_to p) (power_pos 2 p (omega arith) (omega arith)) (power_lt 2 p) (other p alive) (omega arith)

-- so with three symbols at most a pair of places is found
module _ (w : List ℕ) (l : length w ≡ 15) (missing : (z : ℕ) → 0 < z → z < 16 → Second (take_away z (six_sums w)) z None) where
  first_missed : (z : ℕ) → 0 < z → z < 16 → weight (away z w) ≤ 2 → ⊥
  first_missed z pz hz few =
      second_missed z (away z w) (length_away z w ∙ l) (λ p alive. alive_other p z w alive)
      (subst (λ (t : List ℕ). Second t z None) (sums_away z 1 5 w) (missing z pz hz)) few (pick (away z w))

  by_pick : weight w ≤ 3 → Pick w → ⊥
  by_pick few (none e) = first_missed 1 (omega arith) (omega arith) (omega (arith, weight_le 1 w))
  by_pick few (place p h alive less) = first_missed (a_to p) (power_pos 2 p (omega arith) (omega arith)) (power_lt 2 p) (omega arith)

  pub pair_missed : weight w ≤ 3 → ⊥
  pair_missed few = by_pick few (pick w)
