-- Four numbers that fit are zeros or the powers of a third place; so two places that were found have one.
-- Assumes nothing.
use mathlib.Core.Bool.{Bool, true, false, not, ◌&&◌, ◌||◌, and-eq-true_iff}
use mathlib.Core.List.{List}
use mathlib.Core.Path.{◌≡◌, refl}
use Prim.Native.Nat.{ℕ, ◌<◌}
use borrow.Author.Tests.{eqb-true, eqb-false, not-true}
use native.Mathlib.Omega.{arith}
use lib.Dec.{eqb}
use lib.ListN.{get_or}
use Rattle.field16.proofs.Distance.{positive}
use Rattle.power_sums.specs.Sums.{goes_on, third_of, apart, fits}
use Rattle.wrong_symbols.proofs.Complete.{true_false}

-- what is known where four numbers fit
pub data Fitting (x y z : ℕ) (u : List ℕ) : Type 0 where
  empty : z ≡ 1 → get_or u 0 0 ≡ 0 → Fitting x y z u
  third : 0 < z → (z ≡ x → ⊥) → (z ≡ y → ⊥) → Fitting x y z u

otherwise : (p q : Bool) → p ≡ false → (p || q) ≡ true → q ≡ true
otherwise true q e f = absurd (true_false refl e)
otherwise false q e f = f

third_empty : (u : List ℕ) → eqb (get_or u 0 0) 0 ≡ true → third_of u ≡ 1
unfolding third_of
third_empty u e = rw e

pub fitting : (x y : ℕ) (u : List ℕ) → fits x y u ≡ true → Fitting x y (third_of u) u
unfolding fits
fitting x y u f = by (eqb (get_or u 0 0) 0) refl
  where
    by : (q : Bool) → eqb (get_or u 0 0) 0 ≡ q → Fitting x y (third_of u) u
    by true e = empty (third_empty u e) (eqb-true (get_or u 0 0) 0 e)
    by false e =
        let z : ℕ = third_of u in
        let g : (eqb (get_or u 0 0) 0 || apart z x y) ≡ true = ((and-eq-true_iff (goes_on z u) (eqb (get_or u 0 0) 0 || apart z x y)).0 f).1 in
        let h : apart z x y ≡ true = otherwise (eqb (get_or u 0 0) 0) (apart z x y) e g in
        let k = ((and-eq-true_iff (not (eqb z 0)) (not (eqb z x) && not (eqb z y))).0 h).1 in
        third (positive z (eqb-false z 0 (not-true (eqb z 0) ((and-eq-true_iff (not (eqb z 0)) (not (eqb z x) && not (eqb z y))).0 h).0)))
        (eqb-false z x (not-true (eqb z x) ((and-eq-true_iff (not (eqb z x)) (not (eqb z y))).0 k).0))
        (eqb-false z y (not-true (eqb z y) ((and-eq-true_iff (not (eqb z x)) (not (eqb z y))).0 k).1))

pub third_pos : (x y : ℕ) (u : List ℕ) → fits x y u ≡ true → 0 < third_of u
third_pos x y u f = by (fitting x y u f)
  where
    by : Fitting x y (third_of u) u → 0 < third_of u
    by (empty e g) = omega arith
    by (third p g h) = p
