-- Of years that begin one after the other only one holds a day, and it is found beside any year that is near it.
-- Assumes nothing.
use Prim.Native.Nat.{ℕ, zero, suc, ◌+◌, ◌-◌, ◌≤◌, ◌<◌}
use native.Mathlib.Nat.{add-zero}
use native.Mathlib.Omega.{arith}
use mathlib.Core.Path.{◌≡◌}
use mathlib.Core.Logic.{⊎_elim}
use Rattle.record.proofs.Tests.{le_or_lt}
use Rattle.calendar.specs.Weeks.{year_around}
use Rattle.calendar.proofs.Choice.{in_each_case}

-- the year begins on the day or before it, and the next after it
pub record Holds (begins : ℕ → ℕ) (day y : ℕ) : Type 0 where
  pub from : begins y ≤ day
  pub to : day < begins (y + 1)

module _ (begins : ℕ → ℕ) (rises : (y : ℕ) → begins y ≤ begins (y + 1)) where
  years_on : (k y : ℕ) → begins y ≤ begins (y + k)
  years_on zero y = rw add-zero (omega arith)
  years_on (suc k) y = let next : y + suc k ≡ y + k + 1 = omega arith in rw next (omega (arith, years_on k y, rises (y + k)))

  -- a later year begins later
  pub later : (a b : ℕ) → a ≤ b → begins a ≤ begins b
  later a b h = let year : a + (b - a) ≡ b = omega arith in rw year at (years_on (b - a) a)

  -- a later day lies in no earlier year
  pub ordered : (n m a b : ℕ) → Holds begins n a → Holds begins m b → n ≤ m → a ≤ b
  ordered n m a b p q h =
      ⊎_elim (λ l. l) (λ l. absurd (omega (arith, later (b + 1) a (omega arith), p.from, q.to))) (le_or_lt a b)

  pub only : (n a b : ℕ) → Holds begins n a → Holds begins n b → a ≡ b
  only n a b p q = let up = ordered n n a b p q (omega arith) in let down = ordered n n b a q p (omega arith) in omega arith

module _ (begins : ℕ → ℕ) (y day : ℕ) where
  abbrev found : ℕ
  found = year_around y (begins y) (begins (y + 1)) day

  -- the year or a neighbour
  pub near : (y ≤ found + 1) × (found ≤ y + 1)
  unfolding year_around
  near =
      in_each_case (λ z. (y ≤ z + 1) × (z ≤ y + 1)) day (begins y) day (begins (y + 1))
      (λ h. (omega arith, omega arith))
      (λ h k. (omega arith, omega arith))
      (λ h k. (omega arith, omega arith))

  -- it holds the day, where that is not before the one nor after the other
  pub holds : 1 ≤ y → begins (y - 1) ≤ day → day < begins (y + 1 + 1) → Holds begins day found
  unfolding year_around
  holds a b c =
      let year : y - 1 + 1 ≡ y = omega arith in
      in_each_case (Holds begins day) day (begins y) day (begins (y + 1))
      (λ h. record { from = b; to = rw year h })
      (λ h k. record { from = h; to = k })
      (λ h k. record { from = k; to = c })
