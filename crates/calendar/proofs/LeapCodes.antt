-- What holds of the leap codes in both editions: each says how many years ago a leap year was, and that is known from the code again.
-- Assumes nothing.
use Prim.Native.Nat.{ℕ, zero, suc, ◌+◌, ◌%◌, ◌≤◌}
use native.Mathlib.Omega.{arith}
use mathlib.Core.Path.{◌≡◌, refl, sym, ap, ◌∙◌}
use mathlib.Core.List.{[], ◌∷◌}
use lib.Dec.{eqb}
use lib.ListN.{get_or}
use Rattle.record.specs.declared.Edition.{Edition}
use Rattle.record.specs.declared.Edition.TheVariants.{Of1984, Of1982}
use Rattle.calendar.specs.LeapCodes.{codes_of_1982, leap_code, says_leap, next_leap_code}
use Rattle.calendar.specs.Years.{first_year_of_span, last_year, leap_year}
use Rattle.calendar.proofs.Years.{leap_four}

-- the years since the last leap year, 0 to 3, that a code tells
unfoldable pub since_leap : Edition → ℕ → ℕ
since_leap Of1984 code = code
since_leap Of1982 code = get_or (2 ∷ 3 ∷ 1 ∷ 0 ∷ []) code 0

-- what holds of 0 to 3
pub of_four : (P : ℕ → Type 0) → P 0 → P 1 → P 2 → P 3 → (n : ℕ) → n ≤ 3 → P n
of_four P a b c d zero h = a
of_four P a b c d (suc zero) h = b
of_four P a b c d (suc (suc zero)) h = c
of_four P a b c d (suc (suc (suc zero))) h = d
of_four P a b c d (suc (suc (suc (suc n)))) h = absurd (omega arith)

pub code_range : (edition : Edition) (y : ℕ) → leap_code edition y ≤ 3
unfolding leap_code
code_range Of1984 y = omega arith
code_range Of1982 y = of_four (λ k. get_or codes_of_1982 k 0 ≤ 3) (omega arith) (omega arith) (omega arith) (omega arith) (y % 4) (omega arith)

-- a year's code tells the years since its leap year
pub since_of_year : (edition : Edition) (y : ℕ) → since_leap edition (leap_code edition y) ≡ y % 4
unfolding leap_code since_leap
since_of_year Of1984 y = refl
since_of_year Of1982 y = of_four (λ k. since_leap Of1982 (get_or codes_of_1982 k 0) ≡ k) refl refl refl refl (y % 4) (omega arith)

-- and so many years after a leap year the code is this one
pub year_since : (edition : Edition) (code : ℕ) → code ≤ 3 → (since_leap edition code ≤ 3) × ((y : ℕ) → y % 4 ≡ since_leap edition code → leap_code edition y ≡ code)
unfolding leap_code since_leap
year_since Of1984 code h = (h, λ y e. e)
year_since Of1982 code h = (
  of_four (λ c. since_leap Of1982 c ≤ 3) (omega arith) (omega arith) (omega arith) (omega arith) code h,
  λ y e. rw e (of_four (λ c. get_or codes_of_1982 (since_leap Of1982 c) 0 ≡ c) refl refl refl refl code h),
)

pub says : (edition : Edition) (y : ℕ) → says_leap edition (leap_code edition y) ≡ eqb (y % 4) 0
unfolding leap_code says_leap
says Of1984 y = refl
says Of1982 y = of_four (λ k. eqb (get_or codes_of_1982 k 0) 3 ≡ eqb k 0) refl refl refl refl (y % 4) (omega arith)

pub next_code : (edition : Edition) (y : ℕ) → next_leap_code edition (leap_code edition y) ≡ leap_code edition (y + 1)
unfolding leap_code next_leap_code
next_code Of1984 y = omega arith
next_code Of1982 y =
    let one_on : (y % 4 + 1) % 4 ≡ (y + 1) % 4 = omega arith in
    rw (← one_on) (of_four (λ k. next_leap_code Of1982 (get_or codes_of_1982 k 0) ≡ get_or codes_of_1982 ((k + 1) % 4) 0) refl refl refl refl (y % 4) (omega arith))

pub next_range : (edition : Edition) (code : ℕ) → code ≤ 3 → next_leap_code edition code ≤ 3
unfolding next_leap_code
next_range Of1984 code h = omega arith
next_range Of1982 code h = of_four (λ c. next_leap_code Of1982 c ≤ 3) (omega arith) (omega arith) (omega arith) (omega arith) code h

module _ (edition : Edition) where
  -- years of one code are a multiple of four years apart
  pub same_code : (x y : ℕ) → leap_code edition x ≡ leap_code edition y → x % 4 ≡ y % 4
  same_code x y e = sym (since_of_year edition x) ∙ ap (since_leap edition) e ∙ since_of_year edition y

  -- and years so far apart have one code
  pub code_again : (x y : ℕ) → x % 4 ≡ y % 4 → leap_code edition x ≡ leap_code edition y
  code_again x y e = (year_since edition (leap_code edition y) (code_range edition y)).1 x (e ∙ sym (since_of_year edition y))

  -- inside the calendar the code says whether the year is leap
  pub leap_said : (y : ℕ) → first_year_of_span ≤ y → y ≤ last_year → leap_year y ≡ says_leap edition (leap_code edition y)
  leap_said y a b = leap_four y a b ∙ sym (says edition y)
