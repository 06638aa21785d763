-- Months of given lengths: their sums, and the day of a month that is found by passing them one by one.
-- Assumes nothing.
use Prim.Native.Nat.{ℕ, zero, suc, ◌+◌, ◌-◌, ◌≤◌, ◌<◌}
use native.Mathlib.Omega.{arith}
use mathlib.Core.Path.{◌≡◌, refl, ◌∙◌}
use mathlib.Core.Bool.{Bool, true, false, cond, ◌&&◌, and-eq-true_iff}
use mathlib.Core.Logic.{⊎_elim}
use mathlib.Core.List.{List, [], ◌∷◌}
use borrow.Author.Tests.{le-leb, lt-leb, leb-true}
use lib.Dec.{leb}
use lib.ListN.{length, get_or, drop, drop_of_length-le}
use lib.Seq.{drop-cons}
use Rattle.record.proofs.Tests.{le_or_lt}
use Rattle.calendar.specs.Years.{year_length}
use Rattle.calendar.specs.Days.{months, month_length, sum_of, day_of_month, month_day, month_from}

-- one month more
pub sum_suc : (k : ℕ) (ns : List ℕ) → sum_of (suc k) ns ≡ sum_of k ns + get_or ns k 0
unfolding sum_of
sum_suc zero [] = refl
sum_suc (suc k) [] = refl
sum_suc zero (n ∷ ns) = omega arith
sum_suc (suc k) (n ∷ ns) = omega (arith, sum_suc k ns)

sum_mono : (k n : ℕ) (ns : List ℕ) → k ≤ n → sum_of k ns ≤ sum_of n ns
unfolding sum_of
sum_mono zero n ns h = omega arith
sum_mono (suc k) zero ns h = absurd (omega arith)
sum_mono (suc k) (suc n) [] h = omega arith
sum_mono (suc k) (suc n) (m ∷ ns) h = omega (arith, sum_mono k n ns (omega arith))

pub months_sum : (leap : Bool) → sum_of 12 (months leap) ≡ year_length leap
unfolding sum_of
months_sum true = refl
months_sum false = refl

-- no month is shorter than 28 days
long : List ℕ → Bool
long [] = true
long (n ∷ ns) = leb 28 n && long ns

at_least : (ns : List ℕ) (k : ℕ) → long ns ≡ true → k < length ns → 28 ≤ get_or ns k 0
unfolding long
at_least [] k t h = absurd (omega arith)
at_least (n ∷ ns) zero t h = leb-true 28 n ((and-eq-true_iff (leb 28 n) (long ns)).0 t).0
at_least (n ∷ ns) (suc k) t h = at_least ns k ((and-eq-true_iff (leb 28 n) (long ns)).0 t).1 (omega arith)

pub month_least : (leap : Bool) (month : ℕ) → 1 ≤ month → month ≤ 12 → 28 ≤ month_length leap month
unfolding long
month_least true month a b = at_least (months true) (month - 1) refl (omega arith)
month_least false month a b = at_least (months false) (month - 1) refl (omega arith)

-- a day of a month is a day of its year
pub day_range : (leap : Bool) (month day : ℕ) → 1 ≤ month → month ≤ 12 → day ≤ month_length leap month → day_of_month leap month day ≤ year_length leap
day_range leap month day a b h =
    omega (arith, sum_suc (month - 1) (months leap), sum_mono (suc (month - 1)) 12 (months leap) (omega arith), months_sum leap)

module _ (ns : List ℕ) (k m d : ℕ) where
  step : k < length ns → month_from (drop k ns) m d ≡ cond (leb d (get_or ns k 0)) (month_day m d) (month_from (drop (suc k) ns) (m + 1) (d - get_or ns k 0))
  unfolding month_from
  step h = rw (drop-cons ns k 0)

  -- month m has the day
  pub here : k < length ns → d ≤ get_or ns k 0 → month_from (drop k ns) m d ≡ month_day m d
  here h l = step h ∙ rw (le-leb d (get_or ns k 0) l)

  -- it comes after month m
  pub later : k < length ns → get_or ns k 0 < d → month_from (drop k ns) m d ≡ month_from (drop (suc k) ns) (m + 1) (d - get_or ns k 0)
  later h l = step h ∙ rw (lt-leb d (get_or ns k 0) l)

  pub past : length ns ≤ k → month_from (drop k ns) m d ≡ month_day 0 0
  unfolding month_from
  past h = rw (drop_of_length-le ns h)

-- ---- there and back

-- the day of a month is found again from its day of the year
pub month_back : (ns : List ℕ) (i m d : ℕ) → i < length ns → 1 ≤ d → d ≤ get_or ns i 0 → month_from ns m (sum_of i ns + d) ≡ month_day (m + i) d
unfolding month_from sum_of
month_back [] i m d h a b = absurd (omega arith)
month_back (n ∷ ns) zero m d h a b =
    let first : 0 + d ≡ d = omega arith in
    let same : m + 0 ≡ m = omega arith in
    rw (first, same, le-leb d n b)
month_back (n ∷ ns) (suc i) m d h a b =
    let less : n + sum_of i ns + d - n ≡ sum_of i ns + d = omega arith in
    let next : m + suc i ≡ m + 1 + i = omega arith in
    rw (lt-leb (n + sum_of i ns + d) n (omega arith), less, next) (month_back ns i (m + 1) d (omega arith) a b)

pub record Found (ns : List ℕ) (m n : ℕ) : Type 0 where
  pub at : ℕ
  pub day : ℕ
  pub inside : at < length ns
  pub from : 1 ≤ day
  pub to : day ≤ get_or ns at 0
  pub whole : sum_of at ns + day ≡ n
  pub is : month_from ns m n ≡ month_day (m + at) day

module _ (l : ℕ) (ns : List ℕ) (m n : ℕ) (a : 1 ≤ n) where
  found_here : n ≤ l → Found (l ∷ ns) m n
  unfolding month_from sum_of
  found_here h =
      let same : m + 0 ≡ m = omega arith in
      record { at = 0; day = n; inside = omega arith; from = a; to = h; whole = omega arith; is = rw (same, le-leb n l h) }

  found_later : l < n → Found ns (m + 1) (n - l) → Found (l ∷ ns) m n
  unfolding month_from sum_of
  found_later h f =
      let next : m + suc f.at ≡ m + 1 + f.at = omega arith in
      record {
        at = suc f.at;
        day = f.day;
        inside = omega (arith, f.inside);
        from = f.from;
        to = f.to;
        whole = omega (arith, f.whole);
        is = rw (next, lt-leb n l h) f.is;
      }

-- each day of the year is a day of a month
pub month_found : (ns : List ℕ) (m n : ℕ) → 1 ≤ n → n ≤ sum_of (length ns) ns → Found ns m n
unfolding sum_of
month_found [] m n a b = absurd (omega arith)
month_found (l ∷ ns) m n a b =
    ⊎_elim (found_here l ns m n a) (λ h. found_later l ns m n a h (month_found ns (m + 1) (n - l) (omega arith) (omega arith))) (le_or_lt n l)
