-- How doubt goes with the margin: at 0 only equal halves are doubtful, and a larger margin leaves what was doubtful so.
-- Assumes nothing.
use borrow.Author.Tests.{lt-ltb, le-ltb, ltb-true, eqb-true}
use mathlib.Core.Bool.{Bool, true, false, ◌&&◌, ◌||◌, and-eq-true_iff, false≢true, or-false}
use mathlib.Core.Path.{◌≡◌, refl, sym, ap, ◌∙◌}
use Prim.Native.Nat.{ℕ, ◌*◌, ◌<◌, ◌≤◌}
use native.Mathlib.Nat.{eq_of_mul-eq-mul_right, mul-one, zero-mul, lt_of_mul-lt-mul_right, mul_right_comm, mul-le-mul_right, mul-lt-mul_of_pos_right, le_of_eq, le_trans, lt_of_lt_of_le, lt_of_le_of_lt}
use native.Mathlib.Omega.{arith}
use lib.Dec.{eqb, ltb}
use lib.Ieee.{Float, nan, inf, fin, binary32, up, down, lt, eq, le, of_int, sub}
use lib.Ieee.Fits.{down_pos}
use Rattle.halves.specs.Decision.{magnitude, doubtful}
use Rattle.halves.specs.Laws.{OnlyEqualDoubtful, DoubtGrows}
use Rattle.halves.specs.Readings.{degrees}
use Rattle.halves.specs.declared.Pair.{}

-- ---- a margin of 0

-- nothing is less than a product with zero
product_zero : (a u v w : ℕ) → u * 1 ≡ 0 * v → ltb a (u * w) ≡ false
product_zero a u v w h =
    let z : u ≡ 0 = sym (mul-one u) ∙ h ∙ zero-mul v in
    let p : u * w ≡ 0 = ap (λ (n : ℕ). n * w) z ∙ zero-mul w in
    le-ltb a (u * w) (omega arith)

-- so no magnitude is less than zero
none_less : (x margin : Float) → eq margin (degrees 0) ≡ true → lt (magnitude x) margin ≡ false
unfolding eq lt magnitude of_int
none_less x nan h = absurd (false≢true h)
none_less x (inf t) h = absurd (false≢true h)
none_less nan (fin t n d) h = refl
none_less (inf s) (fin t n d) h = refl
none_less (fin s m e) (fin true n d) h = refl
none_less (fin s m e) (fin false n d) h =
    product_zero (m * up e * down d) (n * up d) (down d) (down e) (eqb-true (n * up d * 1) (0 * down d) ((and-eq-true_iff (eqb (n * up d * 1) (0 * down d)) _).0 h).0)

pub only_equal_doubtful : OnlyEqualDoubtful
unfolding doubtful
only_equal_doubtful margin p h =
    ap (λ (t : Bool). eq p.first p.second || t) (none_less (sub binary32 p.first p.second) margin h) ∙ or-false (eq p.first p.second)

-- ---- a larger margin

-- a number that is less than one is less than a larger one, each a fraction
fraction_less : (a p b q c r : ℕ) → 0 < r → a * q < b * p → b * r ≤ c * q → a * r < c * p
fraction_less a p b q c r R h k =
    let one : a * r * q < b * r * p = lt_of_le_of_lt (le_of_eq (mul_right_comm a r q)) (lt_of_lt_of_le (mul-lt-mul_of_pos_right h R) (le_of_eq (mul_right_comm b p r))) in
    let two : b * r * p ≤ c * p * q = le_trans (mul-le-mul_right p k) (le_of_eq (mul_right_comm c q p)) in
    lt_of_mul-lt-mul_right q (lt_of_lt_of_le one two)

at_most : (a b : ℕ) → (ltb a b || (eqb a b && true)) ≡ true → a ≤ b
at_most a b h = go (ltb a b) refl h
  where
    go : (t : Bool) → ltb a b ≡ t → (t || (eqb a b && true)) ≡ true → a ≤ b
    go true k g = omega (arith, ltb-true a b k)
    go false k g = omega (arith, eqb-true a b ((and-eq-true_iff (eqb a b) true).0 g).0)

-- nothing is below what is zero as another fraction
not_below_zero : (a u v w : ℕ) → 0 < v → u * v ≡ 0 → a < u * w → ⊥
not_below_zero a u v w above z h =
    let none : u ≡ 0 = eq_of_mul-eq-mul_right v above u 0 (z ∙ sym (zero-mul v)) in
    let p : u * w ≡ 0 = ap (λ (n : ℕ). n * w) none ∙ zero-mul w in
    omega arith

less_grows : (x margin larger : Float) → le margin larger ≡ true → lt (magnitude x) margin ≡ true → lt (magnitude x) larger ≡ true
unfolding le lt eq magnitude
less_grows nan margin larger l h = absurd (false≢true h)
less_grows (inf s) nan larger l h = absurd (false≢true h)
less_grows (inf s) (inf t) larger l h = absurd (false≢true h)
less_grows (inf s) (fin t n d) larger l h = absurd (false≢true h)
less_grows (fin s m e) nan larger l h = absurd (false≢true h)
less_grows (fin s m e) (inf true) larger l h = absurd (false≢true h)
less_grows (fin s m e) (inf false) nan l h = absurd (false≢true l)
less_grows (fin s m e) (inf false) (inf true) l h = absurd (false≢true l)
less_grows (fin s m e) (inf false) (inf false) l h = refl
less_grows (fin s m e) (inf false) (fin u k f) l h = absurd (false≢true l)
less_grows (fin s m e) (fin true n d) larger l h = absurd (false≢true h)
less_grows (fin s m e) (fin false n d) nan l h = absurd (false≢true l)
less_grows (fin s m e) (fin false n d) (inf true) l h = absurd (false≢true l)
less_grows (fin s m e) (fin false n d) (inf false) l h = refl
less_grows (fin s m e) (fin false n d) (fin true k f) l h =
    let z : n * up d * down f ≡ 0 = eqb-true (n * up d * down f) 0 ((and-eq-true_iff (eqb (n * up d * down f) (k * up f * down d)) (eqb (n * up d * down f) 0)).0 l).1 in
    absurd (not_below_zero (m * up e * down d) (n * up d) (down f) (down e) (down_pos f) z (ltb-true (m * up e * down d) (n * up d * down e) h))
less_grows (fin s m e) (fin false n d) (fin false k f) l h =
    lt-ltb (m * up e * down f) (k * up f * down e)
    (fraction_less (m * up e) (down e) (n * up d) (down d) (k * up f) (down f) (down_pos f)
    (ltb-true (m * up e * down d) (n * up d * down e) h) (at_most (n * up d * down f) (k * up f * down d) l))

pub doubt_grows : DoubtGrows
unfolding doubtful
doubt_grows margin larger p l = go (eq p.first p.second) (less_grows (sub binary32 p.first p.second) margin larger l)
  where
    go : (t : Bool) {u v : Bool} → (u ≡ true → v ≡ true) → (t || u) ≡ true → (t || v) ≡ true
    go true f h = refl
    go false f h = f h
