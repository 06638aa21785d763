-- What is compared with the margin is how far two numbers are apart, exactly, rounded once; the order of the two does not matter.
-- Assumes nothing.
use borrow.Author.Tests.{ltb-true, ltb-false}
use mathlib.Core.Bool.{Bool, true, false, not, cond}
use mathlib.Core.Path.{◌≡◌, refl, sym, ap, ap₂, ◌∙◌}
use Prim.Native.Nat.{ℕ, zero, suc, ◌+◌, ◌-◌, ◌*◌, ◌^◌, ◌<◌, ◌≤◌}
use native.Mathlib.Nat.{mul_comm, add_comm}
use native.Mathlib.Omega.{arith}
use lib.Dec.{ltb}
use lib.Ieee.{inf, fin, Format, binary32, prec, emax, low, up, down, odd, units, round, neg, sum, add, sub}
use lib.IntN.{ℤ}
use Rattle.halves.specs.Decision.{magnitude}
use Rattle.halves.specs.Laws.{apart, RoundedOnce}

-- ---- rounding does not look at the sign

odd_magnitude : (d : ℕ) (s : Bool) (q k l : ℕ) → magnitude (odd d s q k l) ≡ odd d false q k l
unfolding odd magnitude
odd_magnitude d s zero k l = refl
odd_magnitude d s (suc q) k l = refl

units_magnitude : (f : Format) (s : Bool) (q k : ℕ) → magnitude (units f s q k) ≡ units f false q k
unfolding units
units_magnitude f s q k = go (ltb (q * 2 ^ k) (2 ^ (low f + suc (emax f))))
  where
    go : (t : Bool) → magnitude (cond t (odd (suc (prec f)) s q k (low f)) (inf s)) ≡ cond t (odd (suc (prec f)) false q k (low f)) (inf false)
    go true = odd_magnitude (suc (prec f)) s q k (low f)
    go false = unfold magnitude in refl

round_magnitude : (f : Format) (s : Bool) (n d : ℕ) → magnitude (round f s n d) ≡ round f false n d
unfolding round
round_magnitude f s n d = units_magnitude f s _ _

-- ---- a difference

module _ (f : Format) (a b c : ℕ) where
  -- of two numbers on one side of zero
  one_side : (t u : Bool) → magnitude (cond (ltb a b) (round f t (b - a) c) (round f u (a - b) c)) ≡ round f false (a - b + (b - a)) c
  one_side t u = go (ltb a b) refl
    where
      go : (w : Bool) → ltb a b ≡ w → magnitude (cond w (round f t (b - a) c) (round f u (a - b) c)) ≡ round f false (a - b + (b - a)) c
      go true h =
          let l : a < b = ltb-true a b h in
          let e : b - a ≡ a - b + (b - a) = omega arith in
          round_magnitude f t (b - a) c ∙ ap (λ (n : ℕ). round f false n c) e
      go false h =
          let l : b ≤ a = ltb-false a b h in
          let e : a - b ≡ a - b + (b - a) = omega arith in
          round_magnitude f u (a - b) c ∙ ap (λ (n : ℕ). round f false n c) e

  sum_magnitude : (s t : Bool) → magnitude (sum f s a (not t) b c) ≡ round f false (apart s a t b) c
  unfolding sum
  sum_magnitude true true = one_side false (ltb b a)
  sum_magnitude true false = round_magnitude f true (a + b) c
  sum_magnitude false true = round_magnitude f false (a + b) c
  sum_magnitude false false = one_side true false

pub rounded_once : RoundedOnce
unfolding sub add neg
rounded_once s t m n e d = sum_magnitude binary32 (m * up e * down d) (n * up d * down e) (down e * down d) s t

-- ---- the other way round

apart_comm : (s t : Bool) (a b : ℕ) → apart s a t b ≡ apart t b s a
apart_comm true true a b = add_comm (a - b) (b - a)
apart_comm true false a b = add_comm a b
apart_comm false true a b = add_comm a b
apart_comm false false a b = add_comm (a - b) (b - a)

pub either_way : (s t : Bool) (m n : ℕ) (e d : ℤ) → magnitude (sub binary32 (fin s m e) (fin t n d)) ≡ magnitude (sub binary32 (fin t n d) (fin s m e))
either_way s t m n e d =
    rounded_once s t m n e d
    ∙ ap₂ (round binary32 false) (apart_comm s t (m * up e * down d) (n * up d * down e)) (mul_comm (down e) (down d))
    ∙ sym (rounded_once t s n m d e)
