-- No two bursts of six leave the same: what fills six places, moved up, does not fit in them again for as many turns as a block has places.
-- Assumes nothing.
use mathlib.Core.Path.{◌≡◌, refl, sym, ap, ap₂, ◌∙◌}
use Prim.Native.Nat.{ℕ, zero, suc, ◌+◌, ◌-◌, ◌*◌, ◌^◌, ◌<◌, ◌≤◌}
use native.Mathlib.Decide.{dec_le}
use native.Mathlib.Nat.{pow-suc}
use native.Mathlib.Omega.{arith}
use lib.Dec.{T}
use lib.Pow.{pow_mono}
use Rattle.block.specs.Bits.{bits_of}
use Rattle.block.specs.Division.{step_bit, remainder_from, remainder}
use Rattle.block.proofs.Below.{below, at_below}
use Rattle.block.proofs.Zeros.{above, at_above, up, up_lt, up_number, up_on, up_same}

-- six places as a number, with so many behind them; they lie at the end of the block, or their first is changed
pub record Six (m : ℕ) : Type 0 where
  pub rest : ℕ
  pub behind : ℕ
  pub is : m ≡ rest * 2 ^ behind
  pub small : rest < 64
  pub inside : behind ≤ 44
  pub filled : 0 < behind → 32 ≤ rest

-- six places of a block whose first may be unchanged are others that begin later
pub six_of_lem : (n w : ℕ) → n ≤ 44 → w < 64 → Six (w * 2 ^ n)
six_of_lem zero w i h = record { rest = w; behind = 0; is = refl; small = h; inside = i; filled = λ l. absurd (omega arith) }
six_of_lem (suc n) w i h =
    elim (dec_le 32 w) [
      | yes l ↦ record { rest = w; behind = suc n; is = refl; small = h; inside = i; filled = λ q. l }
      | no l ↦ let e : w * 2 * 2 ^ n ≡ w * 2 ^ suc n = rw pow-suc (omega arith) in rw e at (six_of_lem n (w * 2) (omega arith) (omega arith))
    ]

-- what they leave
pub six_left : {m : ℕ} (q : Six m) → remainder (bits_of 50 m) ≡ up q.behind q.rest
six_left q =
    let k : ℕ = 50 - q.behind in
    let size : 50 ≡ k + q.behind = omega (arith, q.inside) in
    let room : 6 ≤ k = omega (arith, q.inside) in
    ap₂ (λ (j n : ℕ). remainder (bits_of j n)) size q.is
    ∙ up_number k q.behind q.rest (omega (arith, q.small, pow_mono room)) (omega (arith, q.small))

-- ---- turned forth

all_above : T (below 32 (λ w. above 64 44 (32 + w)))
unfolding step_bit
all_above = tt

never_six : (w k : ℕ) → 32 ≤ w → w < 64 → k < 44 → 64 ≤ up (suc k) w
never_six w k l h g =
    let e : 32 + (w - 32) ≡ w = omega arith in
    rw e at (at_above 64 44 (32 + (w - 32)) k (at_below 32 (λ w. above 64 44 (32 + w)) all_above (w - 32) (omega arith)) g)

-- where two leave the same, the one with more places behind it, moved up by as many as it has more, is the other; so it has none more
no_higher : {m k : ℕ} (p : Six m) (q : Six k) → q.behind ≤ p.behind → up p.behind p.rest ≡ up q.behind q.rest → m ≡ k
unfolding remainder_from
no_higher {m} {k} p q l e = by (p.behind - q.behind) (omega (arith, l))
  where
    is : (d : ℕ) → d + q.behind ≡ p.behind → up d p.rest ≡ q.rest
    is d z =
        up_same q.behind (up d p.rest) q.rest (up_lt d p.rest (omega (arith, p.small))) (omega (arith, q.small))
        (up_on d q.behind p.rest ∙ ap (λ (n : ℕ). up n p.rest) z ∙ e)

    by : (d : ℕ) → d + q.behind ≡ p.behind → m ≡ k
    by zero z = let same : p.behind ≡ q.behind = omega (arith, z) in p.is ∙ ap₂ (λ (w n : ℕ). w * 2 ^ n) (is 0 z) same ∙ sym q.is
    by (suc d) z =
        absurd (omega (arith, is (suc d) z, q.small, never_six p.rest d (p.filled (omega (arith, z))) p.small (omega (arith, z, p.inside))))

pub same_places : {m k : ℕ} (p : Six m) (q : Six k) → up p.behind p.rest ≡ up q.behind q.rest → m ≡ k
same_places p q e =
    elim (dec_le q.behind p.behind) [ yes l ↦ no_higher p q l e | no l ↦ sym (no_higher q p (omega arith) (sym e)) ]
