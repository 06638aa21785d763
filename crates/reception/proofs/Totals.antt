-- Lists of totals: no place is larger than the total, and place by place sums add up in any order.
-- Assumes nothing.
use mathlib.Core.List.{List, [], ◌∷◌, ◌++◌, append-nil}
use mathlib.Core.Path.{◌≡◌, refl, sym, ap, ap₂, ◌∙◌}
use Prim.Native.Nat.{ℕ, zero, suc, ◌+◌, ◌<◌, ◌≤◌}
use native.Mathlib.Nat.{add-zero, add_comm, add_assoc}
use native.Mathlib.Numerals.{add-one}
use native.Mathlib.Omega.{arith}
use lib.ListN.{length, get_or, set, take, drop, drop_of_length-le}
use lib.Seq.{append_snoc, drop-cons, get_or_at, length-take-le, set_at, take_all, take-suc}
use Rattle.block.specs.Bits.{zeros}
use Rattle.reception.specs.Reports.{adds, total}

pub place_le : (ns : List ℕ) (i : ℕ) → get_or ns i 0 ≤ total ns
place_le [] i = omega arith
place_le (n ∷ ns) zero = omega arith
place_le (n ∷ ns) (suc i) = omega (arith, place_le ns i)

-- the next place comes out of what is left
pub total_from : (ns : List ℕ) (i : ℕ) → i < length ns → total (drop i ns) ≡ get_or ns i 0 + total (drop (i + 1) ns)
total_from ns i h = rw (add-one, drop-cons ns i 0)

pub total_zeros : (k : ℕ) → total (zeros k) ≡ 0
total_zeros zero = refl
total_zeros (suc k) = omega (arith, total_zeros k)

pub total_one : (k i v : ℕ) → i < k → total (set (zeros k) i v) ≡ v
total_one zero i v h = absurd (omega arith)
total_one (suc k) zero v h = omega (arith, total_zeros k)
total_one (suc k) (suc i) v h = omega (arith, total_one k i v (omega arith))

-- ---- sums place by place

pub adds_comm : (ms ns : List ℕ) → adds ms ns ≡ adds ns ms
adds_comm [] [] = refl
adds_comm [] (n ∷ ns) = refl
adds_comm (m ∷ ms) [] = refl
adds_comm (m ∷ ms) (n ∷ ns) = ap₂ (λ (x : ℕ) (xs : List ℕ). x ∷ xs) (add_comm m n) (adds_comm ms ns)

pub adds_assoc : (ls ms ns : List ℕ) → adds (adds ls ms) ns ≡ adds ls (adds ms ns)
adds_assoc [] ms ns = refl
adds_assoc (l ∷ ls) [] ns = refl
adds_assoc (l ∷ ls) (m ∷ ms) [] = refl
adds_assoc (l ∷ ls) (m ∷ ms) (n ∷ ns) = ap₂ (λ (x : ℕ) (xs : List ℕ). x ∷ xs) (add_assoc l m n) (adds_assoc ls ms ns)

pub adds_zeros : (ns : List ℕ) (k : ℕ) → length ns ≡ k → adds ns (zeros k) ≡ ns
adds_zeros [] k h = refl
adds_zeros (n ∷ ns) zero h = absurd (omega arith)
adds_zeros (n ∷ ns) (suc k) h = ap₂ (λ (x : ℕ) (xs : List ℕ). x ∷ xs) (add-zero n) (adds_zeros ns k (omega arith))

-- a sum with zeros but for one place changes that place
pub adds_one : (ns : List ℕ) (k i v : ℕ) → length ns ≡ k → adds ns (set (zeros k) i v) ≡ set ns i (get_or ns i 0 + v)
adds_one [] k i v h = refl
adds_one (n ∷ ns) zero i v h = absurd (omega arith)
adds_one (n ∷ ns) (suc k) zero v h = ap (λ (xs : List ℕ). (n + v) ∷ xs) (adds_zeros ns k (omega arith))
adds_one (n ∷ ns) (suc k) (suc i) v h = ap₂ (λ (x : ℕ) (xs : List ℕ). x ∷ xs) (add-zero n) (adds_one ns k i v (omega arith))

pub length_adds : (ms ns : List ℕ) → length ms ≡ length ns → length (adds ms ns) ≡ length ms
length_adds [] ns h = refl
length_adds (m ∷ ms) [] h = absurd (omega arith)
length_adds (m ∷ ms) (n ∷ ns) h = ap suc (length_adds ms ns (omega arith))

pub total_adds : (ms ns : List ℕ) → length ms ≡ length ns → total (adds ms ns) ≡ total ms + total ns
total_adds [] [] h = refl
total_adds [] (n ∷ ns) h = absurd (omega arith)
total_adds (m ∷ ms) [] h = absurd (omega arith)
total_adds (m ∷ ms) (n ∷ ns) h = omega (arith, total_adds ms ns (omega arith))

pub place_adds : (ms ns : List ℕ) (i : ℕ) → length ms ≡ length ns → get_or (adds ms ns) i 0 ≡ get_or ms i 0 + get_or ns i 0
place_adds [] [] i h = refl
place_adds [] (n ∷ ns) i h = absurd (omega arith)
place_adds (m ∷ ms) [] i h = absurd (omega arith)
place_adds (m ∷ ms) (n ∷ ns) zero h = refl
place_adds (m ∷ ms) (n ∷ ns) (suc i) h = place_adds ms ns i (omega arith)

-- ---- the sums come in from the front

-- sums before a place, and from there on the codes that wait for theirs
module _ (one other : List ℕ) (i : ℕ) (same : length one ≡ length other) (h : i < length one) where
  abbrev Passed : List ℕ → Type 0
  Passed sums = sums ≡ take i (adds one other) ++ drop i one

  sums : length (adds one other) ≡ length one
  sums = length_adds one other same

  passed : length (take i (adds one other)) ≡ i
  passed = length-take-le i (adds one other) (omega (arith, sums))

  rest : drop i one ≡ get_or one i 0 ∷ drop (suc i) one
  rest = drop-cons one i 0 h

  pub waits : {now : List ℕ} → Passed now → get_or now i 0 ≡ get_or one i 0
  waits e = rw (e, rest) (get_or_at (take i (adds one other)) (get_or one i 0) (drop (suc i) one) 0 i passed)

  pub comes_in : {now : List ℕ} → Passed now → set now i (get_or now i 0 + get_or other i 0) ≡ take (i + 1) (adds one other) ++ drop (i + 1) one
  comes_in e =
      rw (waits e, ← place_adds one other i same, e, add-one, rest, take-suc (adds one other) i 0 (omega (arith, sums)), append_snoc)
      (set_at (take i (adds one other)) (get_or one i 0) (drop (suc i) one) (get_or (adds one other) i 0) i passed)

pub all_in : (one other : List ℕ) (i : ℕ) → length one ≡ length other → i ≡ length one → {now : List ℕ} → now ≡ take i (adds one other) ++ drop i one → now ≡ adds one other
all_in one other i same h e =
    let l : length (adds one other) ≡ i = length_adds one other same ∙ sym h in
    e ∙ ap₂ ◌++◌ (take_all i (adds one other) (omega arith)) (drop_of_length-le one {i = i} (omega arith)) ∙ append-nil (adds one other)
