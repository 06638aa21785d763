-- Two groups: two bits that begin with a 1, pushed up by up to fifty zeros, stay above 3, so two bits behind them cannot make up for them.
-- Assumes nothing.
use mathlib.Core.List.{List, [], ◌∷◌, ◌++◌}
use mathlib.Core.Logic.{◌⊎◌, ⊎_elim}
use mathlib.Core.Path.{◌≡◌, refl, sym, ap, ◌∙◌}
use Prim.Native.Nat.{ℕ, zero, suc, ◌+◌, ◌<◌, ◌≤◌, min}
use native.Mathlib.Decide.{dec_le}
use native.Mathlib.Omega.{arith}
use lib.ListN.{length, take, drop, length-take, length-drop}
use lib.Pow.{pow_mono}
use lib.Seq.{get_or-take, take-add}
use Rattle.block.specs.Bits.{Bits, zeros}
use Rattle.block.specs.Division.{step_bit, remainder_from, remainder}
use Rattle.block.proofs.Xor.{on_bit, xor_eq}
use Rattle.block.proofs.Strings.{bits_take, bits_drop, rem_append, rem_val, rem_split, val_lt}
use Rattle.block.proofs.Zeros.{at_above, up_lt, up_on}
use Rattle.detection.specs.Damage.{Changed, Among}
use Rattle.detection.proofs.Places.{changed_lt, unchanged}
use Rattle.detection.proofs.Burst.{cut, not_burst}

far : (x n : ℕ) → x < 2 → 1 ≤ n → n ≤ 50 → 4 ≤ remainder_from (2 + x) (zeros n)
unfolding step_bit
far x zero hx h l = absurd (omega arith)
far x (suc n) hx h l = on_bit (λ x. 4 ≤ remainder_from (2 + x) (zeros (suc n))) (at_above 4 50 2 n tt l) (at_above 4 50 3 n tt l) x hx

step_one : (x : ℕ) → x < 2 → step_bit 1 x ≡ 2 + x
unfolding step_bit
step_one x h = on_bit (λ x. step_bit 1 x ≡ 2 + x) refl refl x h

apart : (x n : ℕ) (q : List ℕ) → x < 2 → Bits q → length q ≤ 2 → 1 ≤ n → n + length q ≤ 50 → remainder (1 ∷ x ∷ (zeros n ++ q)) ≡ 0 → ⊥
unfolding remainder_from
apart x n q hx hq lq hn l z =
    let r : ℕ = remainder_from (2 + x) (zeros n) in
    let e : remainder_from r (zeros (length q)) ≡ remainder q =
    xor_eq (remainder_from r (zeros (length q))) (remainder q)
    (sym (rem_split q r (up_lt n (2 + x) (omega arith)) hq)
    ∙ sym (rem_append (zeros n) q (2 + x))
    ∙ ap (λ (v : ℕ). remainder_from v (zeros n ++ q)) (sym (step_one x hx))
    ∙ z) in
    omega (arith, e, up_on n (length q) (2 + x), far x (n + length q) hx (omega arith) l, rem_val q hq (omega arith), val_lt q hq, pow_mono lq)

-- changes at the first place of r and in one group more
module _ (r : List ℕ) (b : ℕ) (h : Bits r) (f : (k : ℕ) → Changed r k → (k < 1) ⊎ Among b 2 k) (z : remainder (1 ∷ r) ≡ 0) where
  before_end : (k : ℕ) → Changed r k → k < b + 2
  before_end k c = ⊎_elim (λ i. omega arith) (λ i. omega arith) (f k c)

  gap : (k : ℕ) → Changed r k → k < b → k < 1
  gap k c l = ⊎_elim (λ i. i) (λ i. absurd (omega arith)) (f k c)

  -- near each other they are a burst
  close : min (b + 2) (length r) ≤ 12 → ⊥
  close d = not_burst r h (λ k c. omega (arith, before_end k c, changed_lt r k c)) z

pub not_groups : (r : List ℕ) (b : ℕ) → Bits r → length r ≤ 49 → ((k : ℕ) → Changed r k → (k < 1) ⊎ Among b 2 k) → remainder (1 ∷ r) ≡ 0 → ⊥
not_groups [] b h l f z = close [] b h f z (omega arith)
not_groups (x ∷ s) zero h l f z = close (x ∷ s) 0 h f z (omega arith)
not_groups (x ∷ s) (suc m) h l f z = go (dec_le (min (suc m + 2) (suc (length s))) 12)
  where
    t : List ℕ
    t = take m s

    q : List ℕ
    q = take 2 (drop m s)

    between : t ≡ zeros (length t)
    between =
        unchanged t (bits_take m s h.1) (λ k c.
        let i : k < m = omega (arith, changed_lt t k c, length-take m s) in
        omega (arith, gap (x ∷ s) (suc m) h f z (suc k) (sym (get_or-take m s k 0 i) ∙ c) (omega arith)))

    go : Dec (min (suc m + 2) (suc (length s)) ≤ 12) → ⊥
    go (yes d) = close (x ∷ s) (suc m) h f z d
    go (no d) =
        let e : suc m + 2 ≡ suc (m + 2) = omega arith in
        apart x (length t) q h.0 (bits_take 2 (drop m s) (bits_drop m s h.1)) (omega (arith, length-take 2 (drop m s))) (omega (arith, length-take m s))
        (omega (arith, length-take m s, length-take 2 (drop m s), length-drop m s))
        (ap (λ (u : List ℕ). remainder (1 ∷ x ∷ (u ++ q))) (sym between)
        ∙ ap (λ (u : List ℕ). remainder (1 ∷ x ∷ u)) (sym (take-add m 2 s))
        ∙ ap (λ (n : ℕ). remainder (1 ∷ take n (x ∷ s))) (sym e)
        ∙ cut (x ∷ s) (suc m + 2) h (before_end (x ∷ s) (suc m) h f z) z)
