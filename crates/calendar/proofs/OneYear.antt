-- A start day and a leap code name exactly one of 28 successive years: the years of one leap code are four apart,
-- and four years move the start day by five, so seven of them have seven start days.
-- Assumes nothing.
use Prim.Native.Nat.{ℕ, zero, suc, ◌+◌, ◌*◌, ◌-◌, ◌/◌, ◌%◌, ◌≤◌, ◌<◌}
use native.Mathlib.Nat.{eq-or-lt_of_le}
use native.Mathlib.Omega.{arith}
use mathlib.Core.Path.{◌≡◌, refl, sym, ap, ◌∙◌}
use mathlib.Core.Bool.{Bool, true, false, ◌&&◌}
use mathlib.Core.Logic.{⊎_elim}
use borrow.Author.Tests.{eq-eqb, eqb-true}
use lib.Dec.{eqb}
use Rattle.record.specs.declared.Edition.{Edition}
use Rattle.calendar.specs.LeapCodes.{leap_code}
use Rattle.calendar.specs.Years.{first_year_of_span, last_first_year, last_year, span, start_day_of, year_from}
use Rattle.calendar.proofs.Years.{start_closed}
use Rattle.calendar.proofs.LeapCodes.{since_leap, year_since, same_code}

-- ---- at most one

-- four years move the start day by five
fours : (n m k : ℕ) → m ≡ n + 4 * k → m + m / 4 + 1 ≡ n + n / 4 + 1 + 5 * k
fours n m k e = omega arith

wrap : (x k : ℕ) → (x + 7 * k) % 7 ≡ x % 7
wrap x k = omega arith

small : (k : ℕ) → 1 ≤ k → k ≤ 6 → k % 7 ≡ 0 → ⊥
small k a b e = omega arith

-- 15 is one more than a multiple of 7: five times less than seven is no multiple of 7
fives : (m k : ℕ) → 1 ≤ k → k ≤ 6 → (m + 5 * k) % 7 ≡ m % 7 → ⊥
fives m k a b e =
    let q = (m + 5 * k) / 7 - m / 7 in
    let five : 5 * k ≡ 7 * q = omega arith in
    let fifteen : k + 7 * (2 * k) ≡ 0 + 7 * (3 * q) = omega arith in
    small k a b (sym (wrap k (2 * k)) ∙ ap (λ (t : ℕ). t % 7) fifteen ∙ wrap 0 (3 * q))

differ : (x y : ℕ) → first_year_of_span ≤ x → y ≤ last_year → x < y → y < x + span → start_day_of x ≡ start_day_of y → x % 4 ≡ y % 4 → ⊥
differ x y a b c d s l =
    let n = x - 1901 in
    let m = y - 1901 in
    let k = y / 4 - x / 4 in
    let apart : y ≡ x + 4 * k = omega arith in
    let low : 1 ≤ k = omega arith in
    let high : k ≤ 6 = omega arith in
    fives (n + n / 4 + 1) k low high
    (ap (λ (t : ℕ). t % 7) (sym (fours n m k (omega arith)))
    ∙ pred_eq (sym (start_closed y (omega arith) b) ∙ sym s ∙ start_closed x a (omega arith)))
  where
    pred_eq : {p q : ℕ} → p + 1 ≡ q + 1 → p ≡ q
    pred_eq e = omega arith

not_both : (p q : Bool) → (p ≡ true → q ≡ true → ⊥) → (p && q) ≡ false
not_both true true h = absurd (h refl refl)
not_both true false h = refl
not_both false q h = refl

-- the year is found again from its own start day and leap code
found : (edition : Edition) (n x y : ℕ) → n ≤ span → first_year_of_span ≤ x → x ≤ y → y < x + n → y ≤ last_year
    → year_from edition n x (start_day_of y) (leap_code edition y) ≡ y
unfolding year_from
found edition zero x y h a b c d = absurd (omega arith)
found edition (suc n) x y h a b c d =
    ⊎_elim
    (λ e. rw (eq-eqb (start_day_of x) (start_day_of y) (ap start_day_of e), eq-eqb (leap_code edition x) (leap_code edition y) (ap (leap_code edition) e)) e)
    (λ l.
    rw
    (not_both (eqb (start_day_of x) (start_day_of y)) (eqb (leap_code edition x) (leap_code edition y))
    (λ p q. differ x y a d l (omega arith) (eqb-true _ _ p) (same_code edition x y (eqb-true _ _ q))))
    (found edition n (x + 1) y (omega arith) (omega arith) (omega arith) (omega arith) d))
    (eq-or-lt_of_le b)

-- ---- at least one

-- and three times the days between two start days is how many times four years lead from one to the other
steps : (c d : ℕ) → (c + 5 * (3 * d % 7)) % 7 ≡ (c + d) % 7
steps c d =
    let e : c + 5 * (3 * d % 7) + 7 * (5 * (3 * d / 7)) ≡ c + d + 7 * (2 * d) = omega arith in
    sym (wrap (c + 5 * (3 * d % 7)) (5 * (3 * d / 7))) ∙ ap (λ (t : ℕ). t % 7) e ∙ wrap (c + d) (2 * d)

-- one of four successive years comes so many years after a leap year
four : (first since : ℕ) → since ≤ 3 → (x : ℕ) × (first ≤ x) × (x ≤ first + 3) × (x % 4 ≡ since)
four first since h = (first + (since + 4 - first % 4) % 4, omega arith, omega arith, omega arith)

lands : (v start : ℕ) → 1 ≤ start → start ≤ 7 → (v + (start + 6 - v % 7)) % 7 + 1 ≡ start
lands v start a b = omega arith

-- one of seven years, each four after the last, has the start day
seven : (x start : ℕ) → first_year_of_span ≤ x → x + 24 ≤ last_year → 1 ≤ start → start ≤ 7 → (k : ℕ) × (k ≤ 6) × (start_day_of (x + 4 * k) ≡ start)
seven x start a b c d = (3 * (start + 6 - v % 7) % 7, small, reached)
  where
    v : ℕ
    v = x - 1901 + (x - 1901) / 4 + 1

    small : 3 * (start + 6 - v % 7) % 7 ≤ 6
    small = omega arith

    reached : start_day_of (x + 4 * (3 * (start + 6 - v % 7) % 7)) ≡ start
    reached =
        start_closed (x + 4 * (3 * (start + 6 - v % 7) % 7)) (omega arith) (omega (arith, small))
        ∙ ap (λ (t : ℕ). t % 7 + 1) (fours (x - 1901) (x + 4 * (3 * (start + 6 - v % 7) % 7) - 1901) (3 * (start + 6 - v % 7) % 7) (omega arith))
        ∙ ap (λ (t : ℕ). t + 1) (steps v (start + 6 - v % 7))
        ∙ lands v start c d

-- ---- the theorem

pub record NamedBy (edition : Edition) (first start leap y : ℕ) : Type 0 where
  pub from : first ≤ y
  pub to : y < first + span
  pub start_day_lem : start_day_of y ≡ start
  pub leap_code_lem : leap_code edition y ≡ leap

module _ (edition : Edition) (first start leap : ℕ) (a : first_year_of_span ≤ first) (b : first ≤ last_first_year) where
  -- any year that they name is the one that the lookup finds
  pub only_one : (y : ℕ) → NamedBy edition first start leap y → year_from edition span first start leap ≡ y
  only_one y n =
      ap (λ (s : ℕ). year_from edition span first s leap) (sym n.start_day_lem)
      ∙ ap (λ (l : ℕ). year_from edition span first (start_day_of y) l) (sym n.leap_code_lem)
      ∙ found edition 28 first y (omega arith) a n.from n.to (omega (arith, n.to))

  -- and they name one
  pub one : 1 ≤ start → start ≤ 7 → leap ≤ 3 → NamedBy edition first start leap (year_from edition span first start leap)
  one c d e =
      let since = year_since edition leap e in
      let x = four first (since_leap edition leap) since.0 in
      let k = seven x.0 start (omega (arith, x.1)) (omega (arith, x.2)) c d in
      let y = x.0 + 4 * k.0 in
      let n : NamedBy edition first start leap y =
      record { from = omega (arith, x.1); to = omega (arith, x.2, k.1); start_day_lem = k.2; leap_code_lem = since.1 y (omega (arith, x.3)) } in
      rw (only_one y n) n
