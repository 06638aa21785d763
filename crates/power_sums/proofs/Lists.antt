-- Power sums as lists: they are symbols, a place that is taken away from a word is taken away from its power sums, and they tell its values.
-- Assumes nothing.
use mathlib.Core.Bool.{Bool, true, false, cond}
use mathlib.Core.List.{List, [], ◌∷◌}
use mathlib.Core.Path.{◌≡◌, refl, ap, ap₂, ◌∙◌}
use Prim.Native.Nat.{ℕ, zero, suc, ◌+◌, ◌≤◌, ◌<◌}
use native.Mathlib.Omega.{arith}
use lib.Bits.{bit_xor, xor_lt}
use lib.Dec.{eqb}
use lib.ListN.{length, get_or}
use Rattle.field16.specs.Words.{Symbols, a_to, at}
use Rattle.field16.specs.Field.{times, power, inverse_of}
use Rattle.field16.proofs.Elements.{times_lt}
use Rattle.field16.proofs.Words.{xor_twice, at_lt, away, next_sum}
use Rattle.power_sums.specs.Sums.{sums_from, six_sums, take_away, third_of}

pub symbols_get_or : (s : List ℕ) (i : ℕ) → Symbols s → get_or s i 0 < 16
symbols_get_or [] i h = omega arith
symbols_get_or (y ∷ s) zero h = h.0
symbols_get_or (y ∷ s) (suc i) h = symbols_get_or s i h.1

pub symbols_take_away : (x : ℕ) (s : List ℕ) → Symbols s → Symbols (take_away x s)
unfolding take_away
symbols_take_away x [] h = tt
symbols_take_away x (s ∷ []) h = tt
symbols_take_away x (s ∷ t ∷ ts) h = (xor_lt 4 t (times x s) h.1.0 (times_lt x s), symbols_take_away x (t ∷ ts) h.1)

pub symbols_sums : (n k : ℕ) (w : List ℕ) → Symbols (sums_from n k w)
unfolding sums_from
symbols_sums n zero w = tt
symbols_sums n (suc k) w = (at_lt (a_to n) w, symbols_sums (suc n) k w)

pub third_lt : (u : List ℕ) → third_of u < 16
unfolding third_of
third_lt u = go (eqb (get_or u 0 0) 0)
  where
    go : (zero? : Bool) → cond zero? 1 (times (get_or u 1 0) (inverse_of (get_or u 0 0))) < 16
    go true = omega arith
    go false = times_lt (get_or u 1 0) (inverse_of (get_or u 0 0))

pub length_sums : (n k : ℕ) (w : List ℕ) → length (sums_from n k w) ≡ k
unfolding sums_from
length_sums n zero w = refl
length_sums n (suc k) w = ap suc (length_sums (suc n) k w)

pub length_take_away : (x k : ℕ) (s : List ℕ) → length s ≡ suc k → length (take_away x s) ≡ k
unfolding take_away
length_take_away x k [] e = absurd (omega arith)
length_take_away x k (s ∷ []) e = omega arith
length_take_away x zero (s ∷ t ∷ ts) e = absurd (omega arith)
length_take_away x (suc k) (s ∷ t ∷ ts) e = ap suc (length_take_away x k (t ∷ ts) (omega arith))

-- a place taken away from the power sums of a word is taken away from the word
pub sums_away : (x n k : ℕ) (w : List ℕ) → take_away x (sums_from n (suc k) w) ≡ sums_from n k (away x w)
unfolding take_away sums_from power
sums_away x n zero w = refl
sums_away x n (suc k) w =
    ap₂ (λ (s : ℕ) (l : List ℕ). s ∷ l)
    (ap (λ (s : ℕ). bit_xor s (times x (at (a_to n) w))) (next_sum (a_to n) x w) ∙ xor_twice (at (a_to n) (away x w)) (times x (at (a_to n) w)))
    (sums_away x (suc n) k w)

-- power sums are the same where the values are, and only there
pub sums_same : (n k : ℕ) (u v : List ℕ) → ((j : ℕ) → n ≤ j → j < n + k → at (a_to j) u ≡ at (a_to j) v) → sums_from n k u ≡ sums_from n k v
unfolding sums_from
sums_same n zero u v f = refl
sums_same n (suc k) u v f =
    ap₂ (λ (x : ℕ) (l : List ℕ). x ∷ l) (f n (omega arith) (omega arith)) (sums_same (suc n) k u v (λ j p q. f j (omega arith) (omega arith)))

sums_at : (n k : ℕ) (u v : List ℕ) → sums_from n k u ≡ sums_from n k v → (i : ℕ) → i < k → at (a_to (i + n)) u ≡ at (a_to (i + n)) v
unfolding sums_from
sums_at n zero u v e i h = absurd (omega arith)
sums_at n (suc k) u v e zero h =
    let z : 0 + n ≡ n = omega arith in
    rw z (let d : at (a_to n) u ≡ at (a_to n) v = cc in d)
sums_at n (suc k) u v e (suc i) h =
    let z : suc i + n ≡ i + suc n = omega arith in
    rw z (sums_at (suc n) k u v (cc) i (omega arith))

pub six_at : (u v : List ℕ) → six_sums u ≡ six_sums v → (j : ℕ) → 1 ≤ j → j ≤ 6 → at (a_to j) u ≡ at (a_to j) v
six_at u v e zero p q = absurd (omega arith)
six_at u v e (suc j) p q = let z : j + 1 ≡ suc j = omega arith in rw z at (sums_at 1 6 u v e j (omega arith))
