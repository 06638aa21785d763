-- The first of two tests that holds chooses one of three; whatever holds in each case holds of the choice.
-- Assumes nothing.
use Prim.Native.Nat.{ℕ, ◌≤◌, ◌<◌}
use mathlib.Core.Bool.{cond}
use mathlib.Core.Logic.{◌⊎◌, inl, inr}
use borrow.Author.Tests.{lt-ltb, le-ltb}
use lib.Dec.{ltb}
use Rattle.record.proofs.Tests.{le_or_lt}

module _ {A : Type 0} (P : A → Type 0) (a b c d : ℕ) {x y z : A} (first : a < b → P x) (second : b ≤ a → c < d → P y) (third : b ≤ a → d ≤ c → P z) where
  pub in_each_case : P (cond (ltb a b) x (cond (ltb c d) y z))
  in_each_case = by (le_or_lt b a) (le_or_lt d c)
    where
      by : (b ≤ a) ⊎ (a < b) → (d ≤ c) ⊎ (c < d) → P (cond (ltb a b) x (cond (ltb c d) y z))
      by (inr h) k = rw (lt-ltb a b h) (first h)
      by (inl h) (inr k) = rw (le-ltb a b h, lt-ltb c d k) (second h k)
      by (inl h) (inl k) = rw (le-ltb a b h, le-ltb c d k) (third h k)
