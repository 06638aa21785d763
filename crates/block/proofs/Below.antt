-- A test that the checker computes at every number below a limit holds at each of them.
-- Assumes nothing.
use mathlib.Core.Bool.{Bool, true, ◌&&◌}
use Prim.Native.Nat.{ℕ, zero, suc, ◌<◌}
use native.Mathlib.Nat.{le_of_suc-le-suc}
use native.Mathlib.Omega.{arith}
use lib.Dec.{T}
use mir.Facts.{and_yes}

-- the test passes at every number below n
abbrev pub below : ℕ → (ℕ → Bool) → Bool
below zero f = true
below (suc n) f = f zero && below n (λ k. f (suc k))

pub at_below : (n : ℕ) (f : ℕ → Bool) → T (below n f) → (k : ℕ) → k < n → T (f k)
at_below zero f t k h = absurd (omega arith)
at_below (suc n) f t zero h = (and_yes (f zero) (below n (λ k. f (suc k))) t).0
at_below (suc n) f t (suc k) h = at_below n (λ k. f (suc k)) (and_yes (f zero) (below n (λ k. f (suc k))) t).1 k (le_of_suc-le-suc h)

-- the same for every two numbers below n
pub at_pairs : (n : ℕ) (f : ℕ → ℕ → Bool) → T (below n (λ a. below n (f a))) → (a b : ℕ) → a < n → b < n → T (f a b)
at_pairs n f t a b ha hb = at_below n (f a) (at_below n (λ a. below n (f a)) t a ha) b hb
