-- Mending has one answer: what cannot be packed, what is good and what is bad exclude one another, and at most one change makes a block good.
-- Assumes nothing.
use Rattle.std.specs.Prelude.{Result, Ok, Err}
use mathlib.Core.Bool.{Bool, true, false, cond}
use mathlib.Core.List.{List}
use mathlib.Core.Path.{◌≡◌, refl, sym, ap, ap₂, ◌∙◌, subst}
use Prim.Native.Nat.{ℕ, ◌≤◌}
use native.Mathlib.Nat.{le_antisymm}
use native.Mathlib.Omega.{arith}
use lib.Dec.{eqb}
use lib.ListN.{length}
use Rattle.refusal.specs.declared.Refusal.{Refusal}
use Rattle.refusal.specs.declared.Refusal.TheVariants.{NotABit, WrongLength, SeveralChanges}
use Rattle.block.specs.Bits.{Bits, are_bits, value, xors}
use Rattle.block.specs.Packed.{pack_of}
use Rattle.block.proofs.Packing.{packs_bits}
use Rattle.mending.specs.Changes.{First, six_from}
use Rattle.mending.specs.Laws.{NeverSeveral, Once}
use Rattle.mending.specs.Mending.{Mends, refused, good, bad, MendsBad, one, none, several, refusal_of, tells}
use Rattle.mending.specs.declared.Change.{Change}
use Rattle.mending.proofs.OnlyOne.{only_one}

-- fifty bits are packed
fifty : (s : List ℕ) → length s ≡ 50 → Bits s → (why : Refusal) → pack_of s ≡ Err why → ⊥
fifty s l h why e = let d = sym (packs_bits s l h) ∙ e in cc

same_first : (e : List ℕ) (j k : ℕ) → First e j → First e k → j ≡ k
same_first e j k p q = le_antisymm (p.least k q.changed) (q.least j p.changed)

module _ (s : List ℕ) (l : length s ≡ 50) (h : Bits s) where
  bad_once : (x y : Result Change Refusal) (t u : List ℕ) → MendsBad s x t → MendsBad s y u → (x ≡ y) × (t ≡ u)
  bad_once x y t u (one d m f j i) (one e n g k o) =
      let same : d ≡ e = only_one s l h d e m n in
      let place : j ≡ k = same_first e j k (subst (λ (c : List ℕ). First c j) same i) o in
      (ap₂ (λ (p : ℕ) (c : List ℕ). tells p (six_from p c)) place same, ap (xors s) same)
  bad_once x y t u (one d m f j i) (none g) = absurd (g d m)
  bad_once x y t u (one d m f j i) (several a b n o g) = absurd (g (only_one s l h a b n o))
  bad_once x y t u (none f) (one e n g k o) = absurd (f e n)
  bad_once x y t u (none f) (none g) = (refl, refl)
  bad_once x y t u (none f) (several a b n o g) = absurd (g (only_one s l h a b n o))
  bad_once x y t u (several a b n o g) q = absurd (g (only_one s l h a b n o))

pub once : Once
once s x y t u (refused why e) (refused other d) = (let same : why ≡ other = cc in ap Err same, refl)
once s x y t u (refused why e) (good g) = absurd (fifty s g.size g.bits why e)
once s x y t u (refused why e) (bad l h f q) = absurd (fifty s l h why e)
once s x y t u (good g) (refused why e) = absurd (fifty s g.size g.bits why e)
once s x y t u (good g) (good f) = (refl, refl)
once s x y t u (good g) (bad l h f q) = absurd (f g)
once s x y t u (bad l h f p) (refused why e) = absurd (fifty s l h why e)
once s x y t u (bad l h f p) (good g) = absurd (f g)
once s x y t u (bad l h f p) (bad k i g q) = bad_once s l h x y t u p q

-- ---- 16

-- packing refuses with 1 and 2 alone
packing_tests : (size bits : Bool) (n : ℕ) → refusal_of (cond size (cond bits (Ok n) (Err NotABit)) (Err WrongLength)) ≤ 2
packing_tests true true n = omega arith
packing_tests true false n = omega arith
packing_tests false bits n = omega arith

pub packing_few : (s : List ℕ) → refusal_of (pack_of s) ≤ 2
unfolding pack_of
packing_few s = packing_tests (eqb (length s) 50) (are_bits s) (value s)

bad_not_16 : (s : List ℕ) → length s ≡ 50 → Bits s → (x : Result Change Refusal) (after : List ℕ) → MendsBad s x after → refusal_of x ≡ 16 → ⊥
bad_not_16 s l h x after (one e m f k i) z = omega arith
bad_not_16 s l h x after (none f) z = omega arith
bad_not_16 s l h x after (several d e m n f) z = f (only_one s l h d e m n)

not_16 : (s : List ℕ) (x : Result Change Refusal) (after : List ℕ) → Mends s x after → refusal_of x ≡ 16 → ⊥
not_16 s x after (refused why e) z = omega (arith, packing_few s, ap refusal_of e)
not_16 s x after (good g) z = omega arith
not_16 s x after (bad l h f p) z = bad_not_16 s l h x after p z

pub never_several : NeverSeveral
never_several s after p = not_16 s (Err SeveralChanges) after p refl
