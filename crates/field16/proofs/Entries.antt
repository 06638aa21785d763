-- A list of known length is its entries, written out.
-- Assumes nothing.
use mathlib.Core.List.{List, [], ◌∷◌}
use mathlib.Core.Path.{◌≡◌, refl, sym, ap, ◌∙◌, subst}
use Prim.Native.Nat.{ℕ, zero, suc}
use lib.ListN.{length, get_or}

-- the k elements of s from the i-th on, written out
abbrev pub elements : ℕ → ℕ → List ℕ → List ℕ
elements i zero s = []
elements i (suc k) s = get_or s i 0 ∷ elements (suc i) k s

rest : (k i y : ℕ) (ys : List ℕ) → elements (suc i) k (y ∷ ys) ≡ elements i k ys
rest zero i y ys = refl
rest (suc k) i y ys = ap (λ (l : List ℕ). get_or ys i 0 ∷ l) (rest k (suc i) y ys)

whole : (s : List ℕ) → s ≡ elements 0 (length s) s
whole [] = refl
whole (y ∷ ys) = ap (λ (l : List ℕ). y ∷ l) (whole ys ∙ sym (rest (length ys) 0 y ys))

pub written_out : (s : List ℕ) (k : ℕ) → length s ≡ k → s ≡ elements 0 k s
written_out s k e = subst (λ (n : ℕ). s ≡ elements 0 n s) e (whole s)
