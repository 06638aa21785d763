-- A magnitude is less than a bound exactly where the number lies between the bound's two signs.
-- Assumes nothing.
use borrow.Author.Tests.{lt-ltb, ltb-true}
use mathlib.Core.Bool.{Bool, true, false, ◌&&◌, and_comm, and-false}
use mathlib.Core.Path.{◌≡◌, refl, sym, ◌∙◌}
use Prim.Native.Nat.{ℕ, ◌+◌, ◌*◌, ◌<◌}
use native.Mathlib.Nat.{add_comm}
use native.Mathlib.Omega.{arith}
use lib.Dec.{ltb}
use lib.Ieee.{Float, nan, inf, fin, up, down, lt, neg}
use Rattle.halves.specs.Decision.{magnitude}

-- where a number is less than another, the two are not both zero
sum_above : (a b n : ℕ) → n ≡ a + b → ltb a b ≡ (ltb 0 n && ltb a b)
sum_above a b n e = go (ltb a b) refl
  where
    go : (t : Bool) → ltb a b ≡ t → t ≡ (ltb 0 n && t)
    go true h = let k : a < b = ltb-true a b h in rw (lt-ltb 0 n (omega arith))
    go false h = sym (and-false (ltb 0 n))

pub between : (x margin : Float) → lt (magnitude x) margin ≡ (lt (neg margin) x && lt x margin)
unfolding lt neg magnitude
between nan nan = refl
between nan (inf t) = refl
between nan (fin t n d) = refl
between (inf s) nan = refl
between (inf true) (inf true) = refl
between (inf true) (inf false) = refl
between (inf false) (inf true) = refl
between (inf false) (inf false) = refl
between (inf true) (fin t n d) = refl
between (inf false) (fin t n d) = refl
between (fin s m e) nan = refl
between (fin s m e) (inf true) = refl
between (fin s m e) (inf false) = refl
between (fin false m e) (fin false n d) = sum_above (m * up e * down d) (n * up d * down e) _ (add_comm (n * up d * down e) (m * up e * down d))
between (fin false m e) (fin true n d) = sym (and-false (ltb (n * up d * down e) (m * up e * down d)))
between (fin true m e) (fin false n d) = sum_above (m * up e * down d) (n * up d * down e) _ refl ∙ and_comm (ltb 0 (m * up e * down d + n * up d * down e)) (ltb (m * up e * down d) (n * up d * down e))
between (fin true m e) (fin true n d) = refl
