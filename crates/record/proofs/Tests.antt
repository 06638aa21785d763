-- What a test that passed or failed says, for ranges and choices.
-- Assumes nothing.
use Rattle.std.specs.Prelude.{Result, Ok, Err}
use Prim.Native.Nat.{ℕ, ◌≤◌, ◌<◌}
use native.Mathlib.Omega.{arith}
use mathlib.Core.Path.{◌≡◌, refl}
use mathlib.Core.Bool.{Bool, true, false, cond, and-eq-true_iff}
use mathlib.Core.Logic.{◌⊎◌, inl, inr}
use borrow.Author.Tests.{leb-true, leb-false, le-leb}
use lib.Dec.{leb}
use Rattle.refusal.specs.declared.Refusal.{Refusal}
use Rattle.record.specs.Ranges.{within}

pub le_or_lt : (m n : ℕ) → (m ≤ n) ⊎ (n < m)
le_or_lt m n = by (leb m n) refl
  where
    by : (t : Bool) → leb m n ≡ t → (m ≤ n) ⊎ (n < m)
    by true e = inl (leb-true m n e)
    by false e = inr (leb-false m n e)

pub between : (low n high : ℕ) → within low n high ≡ true → (low ≤ n) × (n ≤ high)
between low n high e = let p = (and-eq-true_iff (leb low n) (leb n high)).0 e in (leb-true low n p.0, leb-true n high p.1)

pub is_within : (low n high : ℕ) → low ≤ n → n ≤ high → within low n high ≡ true
is_within low n high a b = rw (le-leb low n a) (le-leb n high b)

-- a choice that does not come out as its second answer came out as its first
pub chosen : {A : Type 0} (t : Bool) (x y z : A) → (y ≡ z → ⊥) → cond t x y ≡ z → (t ≡ true) × (x ≡ z)
chosen true x y z n e = (refl, e)
chosen false x y z n e = absurd (n e)

-- and one that does not come out as its first came out as its second
pub passed : {A : Type 0} (t : Bool) (x y z : A) → (x ≡ z → ⊥) → cond t x y ≡ z → y ≡ z
passed true x y z n e = absurd (n e)
passed false x y z n e = e

pub not_given : {A : Type 0} (why : Refusal) (a : A) → ◌≡◌ {A = Result A Refusal} (Err why) (Ok a) → ⊥
not_given why a e = let z : ◌≡◌ {A = ℕ} 0 1 = cc in omega arith
