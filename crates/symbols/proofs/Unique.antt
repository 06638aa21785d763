-- A word has at most one codeword within three places of it: two of them differ in at most six places, and their sum vanishes at six powers.
-- Assumes nothing.
use mathlib.Core.Bool.{Bool, true, false}
use mathlib.Core.List.{List, [], ◌∷◌}
use mathlib.Core.Path.{◌≡◌, refl, sym, ap, ◌∙◌}
use Prim.Native.Nat.{ℕ, suc, ◌+◌, ◌≤◌}
use borrow.Author.Tests.{eqb-true, eqb-false}
use native.Mathlib.Omega.{arith}
use lib.Bits.{bit_xor, xor_self}
use lib.Dec.{eqb}
use lib.ListN.{length}
use Rattle.block.specs.Bits.{xors}
use Rattle.block.proofs.Xor.{xor_eq}
use Rattle.field16.specs.Words.{weight}
use Rattle.field16.proofs.Distance.{weight_nil, weight_none, weight_one, positive, same_word}
use Rattle.symbols.specs.Code.{Codeword, differing, Near}

-- two words go on with the same symbol or with different ones
data Goes (b c : ℕ) (bs cs : List ℕ) : Type 0 where
  same : b ≡ c → differing (b ∷ bs) (c ∷ cs) ≡ differing bs cs → Goes b c bs cs
  other : (b ≡ c → ⊥) → differing (b ∷ bs) (c ∷ cs) ≡ suc (differing bs cs) → Goes b c bs cs

goes : (b c : ℕ) (bs cs : List ℕ) → Goes b c bs cs
unfolding differing
goes b c bs cs = by (eqb b c) refl
  where
    by : (q : Bool) → eqb b c ≡ q → Goes b c bs cs
    by true e = same (eqb-true b c e) (rw e)
    by false e = other (eqb-false b c e) (rw e)

pub differing_same : (x : ℕ) (bs cs : List ℕ) → differing (x ∷ bs) (x ∷ cs) ≡ differing bs cs
differing_same x bs cs = by (goes x x bs cs)
  where
    by : Goes x x bs cs → differing (x ∷ bs) (x ∷ cs) ≡ differing bs cs
    by (same e d) = d
    by (other f d) = absurd (f refl)

differing_nil : (cs : List ℕ) → differing [] cs ≡ length cs
unfolding differing
differing_nil cs = refl

-- a word differs from itself in no place
pub differing_self : (w : List ℕ) → differing w w ≡ 0
differing_self [] = differing_nil []
differing_self (c ∷ cs) = differing_same c cs cs ∙ differing_self cs

nil_differing : (bs : List ℕ) → differing bs [] ≡ length bs
unfolding differing
nil_differing [] = refl
nil_differing (b ∷ bs) = refl

-- in no more places than both have
module _ (b c : ℕ) (bs cs : List ℕ) where
  le_step : Goes b c bs cs → differing bs cs ≤ length bs + length cs → differing (b ∷ bs) (c ∷ cs) ≤ suc (length bs) + suc (length cs)
  le_step (same e d) h = omega arith
  le_step (other f d) h = omega arith

  length_step : Goes b c bs cs → length cs ≤ length bs + differing bs cs → suc (length cs) ≤ suc (length bs) + differing (b ∷ bs) (c ∷ cs)
  length_step (same e d) h = omega arith
  length_step (other f d) h = omega arith

  weight_step : Goes b c bs cs → differing bs cs ≡ weight (xors bs cs) → differing (b ∷ bs) (c ∷ cs) ≡ weight (bit_xor b c ∷ xors bs cs)
  weight_step (same e d) h = d ∙ h ∙ sym (weight_none (bit_xor b c) (xors bs cs) (ap (bit_xor b) (sym e) ∙ xor_self b))
  weight_step (other f d) h = d ∙ ap suc h ∙ sym (weight_one (bit_xor b c) (xors bs cs) (positive (bit_xor b c) (λ z. f (xor_eq b c z))))

differing_le : (bs cs : List ℕ) → differing bs cs ≤ length bs + length cs
differing_le [] cs = omega (arith, differing_nil cs)
differing_le (b ∷ bs) [] = omega (arith, nil_differing (b ∷ bs))
differing_le (b ∷ bs) (c ∷ cs) = le_step b c bs cs (goes b c bs cs) (differing_le bs cs)

-- and in all that only one has
length_le : (bs cs : List ℕ) → length cs ≤ length bs + differing bs cs
length_le [] cs = omega (arith, differing_nil cs)
length_le (b ∷ bs) [] = omega arith
length_le (b ∷ bs) (c ∷ cs) = length_step b c bs cs (goes b c bs cs) (length_le bs cs)

triangle_step : (x y z : ℕ) (ws cs ds : List ℕ) → Goes y z cs ds → Goes x y ws cs → Goes x z ws ds → differing cs ds ≤ differing ws cs + differing ws ds
    → differing (y ∷ cs) (z ∷ ds) ≤ differing (x ∷ ws) (y ∷ cs) + differing (x ∷ ws) (z ∷ ds)
triangle_step x y z ws cs ds (same e d) (same f g) (same k l) h = omega arith
triangle_step x y z ws cs ds (same e d) (same f g) (other k l) h = omega arith
triangle_step x y z ws cs ds (same e d) (other f g) (same k l) h = omega arith
triangle_step x y z ws cs ds (same e d) (other f g) (other k l) h = omega arith
triangle_step x y z ws cs ds (other e d) (same f g) (same k l) h = absurd (e (sym f ∙ k))
triangle_step x y z ws cs ds (other e d) (same f g) (other k l) h = omega arith
triangle_step x y z ws cs ds (other e d) (other f g) (same k l) h = omega arith
triangle_step x y z ws cs ds (other e d) (other f g) (other k l) h = omega arith

pub triangle : (w c d : List ℕ) → differing c d ≤ differing w c + differing w d
triangle [] c d = omega (arith, differing_le c d, differing_nil c, differing_nil d)
triangle (x ∷ ws) [] d = omega (arith, length_le (x ∷ ws) d, differing_nil d, nil_differing (x ∷ ws))
triangle (x ∷ ws) (y ∷ cs) [] = omega (arith, length_le (x ∷ ws) (y ∷ cs), nil_differing (y ∷ cs), nil_differing (x ∷ ws))
triangle (x ∷ ws) (y ∷ cs) (z ∷ ds) = triangle_step x y z ws cs ds (goes y z cs ds) (goes x y ws cs) (goes x z ws ds) (triangle ws cs ds)

-- the sum of two words of one length has a symbol that is not 0 wherever they differ
pub differing_weight : (u v : List ℕ) → length u ≡ length v → differing u v ≡ weight (xors u v)
unfolding xors
differing_weight [] [] e = differing_nil [] ∙ sym weight_nil
differing_weight [] (c ∷ cs) e = absurd (omega arith)
differing_weight (b ∷ bs) [] e = absurd (omega arith)
differing_weight (b ∷ bs) (c ∷ cs) e = weight_step b c bs cs (goes b c bs cs) (differing_weight bs cs (omega arith))

-- codewords of distance six or less are the same
pub apart : (c d : List ℕ) → Codeword c → Codeword d → differing c d ≤ 6 → c ≡ d
apart c d p q h =
    let e : differing c d ≡ weight (xors c d) = differing_weight c d (p.size ∙ sym q.size) in
    same_word c d p.size q.size p.symbols q.symbols (omega arith) (λ j i k. p.roots j i k ∙ sym (q.roots j i k))

pub unique : (word c d : List ℕ) → Near word c → Near word d → c ≡ d
unique word c d p q = apart c d p.code q.code (omega (arith, triangle word c d, p.within, q.within))
