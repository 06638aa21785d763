-- A burst: up to thirteen bits that begin with a 1 are their own remainder, which is not nothing, and the zeros behind them do not change that.
-- Assumes nothing.
use mathlib.Core.Path.{◌≡◌, sym, ap, ◌∙◌}
use mathlib.Core.List.{List, ◌∷◌, ◌++◌}
use Prim.Native.Nat.{ℕ, ◌+◌, ◌<◌}
use native.Mathlib.Omega.{arith}
use lib.ListN.{length, take, drop, length-take, take-append-drop}
use lib.Seq.{get_or-drop}
use Rattle.block.specs.Bits.{Bits, zeros, value_from}
use Rattle.block.specs.Division.{remainder}
use Rattle.block.proofs.Strings.{bits_take, bits_drop, rem_val, val_ge}
use Rattle.detection.specs.Damage.{Changed}
use Rattle.block.proofs.Zeros.{rem_back}
use Rattle.detection.proofs.Places.{unchanged}

-- what stands behind the last change may be cut off
pub cut : (r : List ℕ) (n : ℕ) → Bits r → ((k : ℕ) → Changed r k → k < n) → remainder (1 ∷ r) ≡ 0 → remainder (1 ∷ take n r) ≡ 0
cut r n h f z =
    let t : List ℕ = drop n r in
    let e : t ≡ zeros (length t) = unchanged t (bits_drop n r h) (λ k c. omega (arith, f (n + k) (sym (get_or-drop n r k 0) ∙ c))) in
    rem_back (length t) (1 ∷ take n r) (omega arith, bits_take n r h)
    (ap (λ (l : List ℕ). remainder (1 ∷ (take n r ++ l))) (sym e) ∙ ap (λ (l : List ℕ). remainder (1 ∷ l)) (take-append-drop n r) ∙ z)

pub not_burst : (r : List ℕ) → Bits r → ((k : ℕ) → Changed r k → k < 12) → remainder (1 ∷ r) ≡ 0 → ⊥
unfolding value_from
not_burst r h f z =
    let t : List ℕ = take 12 r in
    omega (arith, cut r 12 h f z, rem_val (1 ∷ t) (omega arith, bits_take 12 r h) (omega (arith, length-take 12 r)), val_ge t 1)
