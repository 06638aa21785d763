-- Two strings that leave no remainder do not overlap in all but a few of forty-nine places: the few bits before the overlap,
-- pushed up by forty-nine zeros, would have to be the few bits behind it, and they are too far up.
-- Assumes nothing.
use mathlib.Core.Bool.{not}
use mathlib.Core.List.{List, [], ◌∷◌, ◌++◌}
use mathlib.Core.Path.{◌≡◌, sym, ap, ap₂, ◌∙◌, subst}
use Prim.Native.Nat.{ℕ, ◌+◌, ◌*◌, ◌/◌, ◌<◌, ◌≤◌}
use native.Mathlib.Decide.{dec_le}
use native.Mathlib.Omega.{arith}
use lib.Bits.{bit_xor, xor_zero_r}
use lib.Dec.{T, T_not, leb, eqb, leb→le}
use lib.ListN.{length}
use lib.Pow.{pow_mono}
use Rattle.block.specs.Bits.{Bits, zeros, value, value_from}
use Rattle.block.specs.Division.{step_bit, remainder_from, remainder}
use Rattle.block.proofs.Strings.{rem_append, rem_small, rem_split, rem_val, val_lt}
use Rattle.block.proofs.Below.{at_below}

-- the bits of m and a 1, pushed up by forty-nine zeros
pushed : ℕ → ℕ
pushed m = remainder_from (m * 2 + 1) (zeros 49)

-- up to six bits end above the seven lowest places
six : (m : ℕ) → m < 32 → 128 ≤ pushed m
unfolding pushed remainder_from
six m h = leb→le 128 (pushed m) (at_below 32 (λ m. leb 128 (pushed m)) tt m h)

-- up to seven bits do not end as a number of just seven bits
seven : (m : ℕ) → m < 64 → pushed m / 64 ≡ 1 → ⊥
unfolding pushed remainder_from
seven m h e = T_not (eqb (pushed m / 64) 1) (at_below 64 (λ m. not (eqb (pushed m / 64) 1)) tt m h) (subst (λ (n : ℕ). T (eqb n 1)) (sym e) tt)

-- a, a 1 and u is the same string as w and q, where u and w leave nothing
module _ (a u w q : List ℕ) (ha : Bits a) (hu : Bits u) (hq : Bits q) (la : length a ≤ 6) (lq : length q ≤ 7) (lu : length u ≡ 49)
    (zu : remainder u ≡ 0) (zw : remainder w ≡ 0) where
  small : value a < 64
  small = omega (arith, val_lt a ha, pow_mono la)

  front : remainder (a ++ (1 ∷ u)) ≡ pushed (value a)
  unfolding pushed value_from remainder_from
  front =
      let h : value a < 64 = small in
      let v : ℕ = value a * 2 + 1 in
      rem_append a (1 ∷ u) 0
      ∙ ap (λ (r : ℕ). remainder_from r u) (ap (λ (r : ℕ). step_bit r 1) (rem_val a ha (omega arith)) ∙ rem_small (1 ∷ []) (value a) (omega arith))
      ∙ rem_split u v (omega arith) hu ∙ ap₂ bit_xor (ap (λ (n : ℕ). remainder_from v (zeros n)) lu) zu ∙ xor_zero_r (remainder_from v (zeros 49))

  back : remainder (w ++ q) ≡ value q
  back = rem_append w q 0 ∙ ap (λ (r : ℕ). remainder_from r q) zw ∙ rem_val q hq (omega arith)

  pub no_overlap : a ++ (1 ∷ u) ≡ w ++ q → (32 ≤ value a → 64 ≤ value q) → ⊥
  no_overlap e f = go (dec_le 32 (value a))
    where
      is : pushed (value a) ≡ value q
      is = sym front ∙ ap remainder e ∙ back

      below : value q < 128
      below = omega (arith, val_lt q hq, pow_mono lq)

      go : Dec (32 ≤ value a) → ⊥
      go (yes h) = seven (value a) small (omega (arith, is, f h, below))
      go (no h) = omega (arith, is, six (value a) (omega arith), below)
