-- Five numbers that two places make follow a rule of second order, so the minors are some d, d times the places' sum and d times their product.
-- Assumes nothing.
use mathlib.Core.Bool.{true, false, ◌||◌, and-eq-true_iff}
use mathlib.Core.List.{List, [], ◌∷◌}
use mathlib.Core.Path.{◌≡◌, sym, ap, ap₂, ◌∙◌, subst, subst⁻¹}
use Prim.Native.Nat.{ℕ}
use borrow.Author.Tests.{eqb-true, eq-eqb}
use lib.Bits.{bit_xor, xor_comm, xor_self, xor_zero_l, xor_zero_r}
use lib.Dec.{eqb}
use lib.ListN.{length, get_or}
use Rattle.block.proofs.Xor.{xor_assoc, xor_swap, xor_cancel}
use Rattle.field16.specs.Field.{times}
use Rattle.field16.proofs.Elements.{times_comm, times_assoc, times_xor, xor_times, times_zero}
use Rattle.field16.proofs.Entries.{written_out}
use Rattle.field16.proofs.Words.{xor_twice, times_swap}
use Rattle.power_sums.specs.Sums.{take_away, goes_on, third_of, apart, fits}
use Rattle.wrong_symbols.specs.Search.{minor_of, minors_of, two_places, may_be}
use Rattle.wrong_symbols.specs.declared.search.Minors.{Minors}
use Rattle.wrong_symbols.proofs.Complete.{refuted, true_false}

-- what goes on by z after y was taken away follows the rule with y + z and y z
rule : (y z a b c : ℕ) → bit_xor c (times y b) ≡ times z (bit_xor b (times y a)) → c ≡ bit_xor (times (bit_xor y z) b) (times (times y z) a)
rule y z a b c e =
    sym (xor_twice c (times y b)) ∙ xor_comm (bit_xor c (times y b)) (times y b)
    ∙ ap (bit_xor (times y b)) (e ∙ times_xor z b (times y a))
    ∙ sym (xor_assoc (times y b) (times z b) (times z (times y a)))
    ∙ ap₂ bit_xor (sym (xor_times y z b)) (times_swap z y a ∙ times_assoc y z a)

-- two products whose factors follow the rule, collected by p and q
collect : (p q u v a b c d : ℕ) → bit_xor (times u (bit_xor (times p a) (times q b))) (times v (bit_xor (times p c) (times q d)))
    ≡ bit_xor (times p (bit_xor (times u a) (times v c))) (times q (bit_xor (times u b) (times v d)))
collect p q u v a b c d =
    ap₂ bit_xor (times_xor u (times p a) (times q b)) (times_xor v (times p c) (times q d))
    ∙ xor_swap (times u (times p a)) (times u (times q b)) (times v (times p c)) (times v (times q d))
    ∙ ap₂ bit_xor
    (ap₂ bit_xor (times_swap u p a) (times_swap v p c) ∙ sym (times_xor p (times u a) (times v c)))
    (ap₂ bit_xor (times_swap u q b) (times_swap v q d) ∙ sym (times_xor q (times u b) (times v d)))

-- a sum of a product with itself is gone
same_gone : (p a b : ℕ) → times p (bit_xor (times a b) (times b a)) ≡ 0
same_gone p a b = ap (λ (n : ℕ). times p (bit_xor (times a b) n)) (times_comm b a) ∙ ap (times p) (xor_self (times a b)) ∙ times_zero p

module _ (y z a b c d e : ℕ) (r : c ≡ bit_xor (times (bit_xor y z) b) (times (times y z) a)) (s : d ≡ bit_xor (times (bit_xor y z) c) (times (times y z) b)) where
  pub sum_is : minor_of a d b c ≡ times (bit_xor y z) (minor_of b b a c)
  unfolding minor_of
  sum_is =
      let p : ℕ = bit_xor y z in
      let q : ℕ = times y z in
      ap₂ (λ (m n : ℕ). bit_xor (times a m) (times b n)) s r ∙ collect p q a b c b b a
      ∙ ap (bit_xor (times p (bit_xor (times a c) (times b b)))) (same_gone q a b)
      ∙ xor_zero_r (times p (bit_xor (times a c) (times b b))) ∙ ap (times p) (xor_comm (times a c) (times b b))

  pub product_is : minor_of b d c c ≡ times (times y z) (minor_of b b a c)
  unfolding minor_of
  product_is =
      let p : ℕ = bit_xor y z in
      let q : ℕ = times y z in
      ap₂ (λ (m n : ℕ). bit_xor (times b m) (times c n)) s r ∙ collect p q b c c b b a
      ∙ ap (λ (n : ℕ). bit_xor n (times q (bit_xor (times b b) (times c a)))) (same_gone p b c)
      ∙ xor_zero_l (times q (bit_xor (times b b) (times c a))) ∙ ap (λ (n : ℕ). times q (bit_xor (times b b) n)) (times_comm c a)

  pub third_order : e ≡ bit_xor (times (bit_xor y z) d) (times (times y z) c)
      → bit_xor (times e (minor_of b b a c)) (bit_xor (times d (minor_of a d b c)) (times c (minor_of b d c c))) ≡ 0
  third_order t =
      let p : ℕ = bit_xor y z in
      let q : ℕ = times y z in
      let o : ℕ = minor_of b b a c in
      ap₂ bit_xor (ap (λ (n : ℕ). times n o) t ∙ xor_times (times p d) (times q c) o)
      (ap₂ (λ (m n : ℕ). bit_xor (times d m) (times c n)) sum_is product_is
      ∙ ap₂ bit_xor (times_swap d p o ∙ times_assoc p d o) (times_swap c q o ∙ times_assoc q c o))
      ∙ xor_self (bit_xor (times (times p d) o) (times (times q c) o))

  pub root_of : times y (bit_xor (times y (minor_of b b a c)) (minor_of a d b c)) ≡ minor_of b d c c
  root_of =
      let o : ℕ = minor_of b b a c in
      ap (λ (n : ℕ). times y (bit_xor (times y o) n)) sum_is
      ∙ ap (times y) (sym (xor_times y (bit_xor y z) o) ∙ ap (λ (n : ℕ). times n o) (xor_cancel y z))
      ∙ times_assoc y z o ∙ sym product_is

-- one step of numbers that go on
pub goes_on_lem : (z s t : ℕ) (ts : List ℕ) → goes_on z (s ∷ t ∷ ts) ≡ true → (t ≡ times z s) × (goes_on z (t ∷ ts) ≡ true)
unfolding goes_on
goes_on_lem z s t ts e = (eqb-true t (times z s) ((and-eq-true_iff (eqb t (times z s)) (goes_on z (t ∷ ts))).0 e).0, ((and-eq-true_iff (eqb t (times z s)) (goes_on z (t ∷ ts))).0 e).1)

-- four numbers that go on, written out
pub record Powers (z : ℕ) (u : List ℕ) : Type 0 where
  pub second : get_or u 1 0 ≡ times z (get_or u 0 0)
  pub third : get_or u 2 0 ≡ times z (get_or u 1 0)
  pub fourth : get_or u 3 0 ≡ times z (get_or u 2 0)

powers_of : (z s t v w : ℕ) → goes_on z (s ∷ t ∷ v ∷ w ∷ []) ≡ true → Powers z (s ∷ t ∷ v ∷ w ∷ [])
powers_of z s t v w e =
    let f = goes_on_lem z s t (v ∷ w ∷ []) e in
    let g = goes_on_lem z t v (w ∷ []) f.1 in
    let h = goes_on_lem z v w [] g.1 in
    record { second = f.0; third = g.0; fourth = h.0 }

-- five numbers that have a second place pass both tests
pub record Passes (t : List ℕ) (y : ℕ) : Type 0 where
  pub two : two_places t (minors_of t) ≡ true
  pub may : may_be (minors_of t) y ≡ true

module _ (y z a b c d e : ℕ) where
  five_pass : goes_on z (take_away y (a ∷ b ∷ c ∷ d ∷ e ∷ [])) ≡ true → Passes (a ∷ b ∷ c ∷ d ∷ e ∷ []) y
  unfolding take_away two_places may_be
  five_pass g =
      let p = powers_of z (bit_xor b (times y a)) (bit_xor c (times y b)) (bit_xor d (times y c)) (bit_xor e (times y d)) g in
      let r = rule y z a b c p.second in
      let s = rule y z b c d p.third in
      let o : ℕ = minor_of b b a c in
      let sum : ℕ = minor_of a d b c in
      let product : ℕ = minor_of b d c c in
      record {
        two = eq-eqb (bit_xor (times e o) (bit_xor (times d sum) (times c product))) 0 (third_order y z a b c d e r s (rule y z c d e p.fourth));
        may = eq-eqb (times y (bit_xor (times y o) sum)) product (root_of y z a b c d e r s);
      }

pub passes : (x y : ℕ) (t : List ℕ) → length t ≡ 5 → fits x y (take_away y t) ≡ true → Passes t y
unfolding fits
passes x y t l f =
    let u : List ℕ = take_away y t in
    let z : ℕ = third_of u in
    let e = written_out t 5 l in
    subst⁻¹ (λ (w : List ℕ). Passes w y) e
    (five_pass y z (get_or t 0 0) (get_or t 1 0) (get_or t 2 0) (get_or t 3 0) (get_or t 4 0)
    (subst (λ (w : List ℕ). goes_on z (take_away y w) ≡ true) e ((and-eq-true_iff (goes_on z u) (eqb (get_or u 0 0) 0 || apart z x y)).0 f).0))

-- so where a test fails nothing fits
pub no_root : (x y : ℕ) (t : List ℕ) (m : Minors) → m ≡ minors_of t → length t ≡ 5 → may_be m y ≡ false → fits x y (take_away y t) ≡ false
no_root x y t m e l f = refuted (fits x y (take_away y t)) (λ g. true_false (ap (λ (m : Minors). may_be m y) e ∙ (passes x y t l g).may) f)

pub no_two : (x y : ℕ) (t : List ℕ) (m : Minors) → m ≡ minors_of t → length t ≡ 5 → two_places t m ≡ false → fits x y (take_away y t) ≡ false
no_two x y t m e l f = refuted (fits x y (take_away y t)) (λ g. true_false (ap (two_places t) e ∙ (passes x y t l g).two) f)
