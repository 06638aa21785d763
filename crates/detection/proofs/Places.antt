-- The places of the changes: each lies in the string, and none among zeros before or behind; where there is none the string is zeros, and
-- where one bit is changed there is one.
-- Assumes nothing.
use mathlib.Core.Path.{◌≡◌, refl, ap₂}
use mathlib.Core.List.{List, [], ◌∷◌, ◌++◌}
use Prim.Native.Nat.{ℕ, zero, suc, ◌<◌, ◌≤◌}
use native.Mathlib.Omega.{arith}
use lib.ListN.{length}
use Rattle.block.specs.Bits.{Bits, zeros}
use Rattle.detection.specs.Damage.{Changed, weight}

pub changed_lt : (e : List ℕ) (k : ℕ) → Changed e k → k < length e
changed_lt [] k c = absurd (omega arith)
changed_lt (b ∷ e) zero c = omega arith
changed_lt (b ∷ e) (suc k) c = omega (arith, changed_lt e k c)

pub changed_weight : (e : List ℕ) (k : ℕ) → Changed e k → 1 ≤ weight e
changed_weight [] k c = absurd (omega arith)
changed_weight (b ∷ e) zero c = omega arith
changed_weight (b ∷ e) (suc k) c = omega (arith, changed_weight e k c)

-- before zeros at the end, and behind zeros at the beginning
pub changed_before : (w : List ℕ) (n k : ℕ) → Changed (w ++ zeros n) k → k < length w
changed_before [] zero k c = absurd (omega arith)
changed_before [] (suc n) zero c = absurd (omega arith)
changed_before [] (suc n) (suc k) c = absurd (omega (arith, changed_before [] n k c))
changed_before (b ∷ w) n zero c = omega arith
changed_before (b ∷ w) n (suc k) c = omega (arith, changed_before w n k c)

pub changed_from : (n : ℕ) (w : List ℕ) (k : ℕ) → Changed (zeros n ++ w) k → n ≤ k
changed_from zero w k c = omega arith
changed_from (suc n) w zero c = absurd (omega arith)
changed_from (suc n) w (suc k) c = omega (arith, changed_from n w k c)

pub unchanged : (e : List ℕ) → Bits e → ((k : ℕ) → Changed e k → ⊥) → e ≡ zeros (length e)
unchanged [] h f = refl
unchanged (b ∷ e) h f =
    ap₂ (λ (x : ℕ) (y : List ℕ). x ∷ y) (omega (arith, f 0)) (unchanged e h.1 (λ k. f (suc k)))

pub only : (e : List ℕ) → weight e ≡ 1 → (i : ℕ) × ((k : ℕ) → Changed e k → k ≡ i)
only [] w = absurd (omega arith)
only (zero ∷ e) w =
    let r = only e (omega arith) in
    (suc r.0, λ k. elim k as (λ k. Changed (0 ∷ e) k → k ≡ suc r.0) [ zero ↦ λ c. absurd (omega arith) | suc k ↦ λ c. omega (arith, r.1 k c) ])
only (suc b ∷ e) w =
    (0, λ k. elim k as (λ k. Changed (suc b ∷ e) k → k ≡ 0) [ zero ↦ λ c. refl | suc k ↦ λ c. absurd (omega (arith, changed_weight e k c)) ])
