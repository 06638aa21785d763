-- What a year's leap code and start day mean, inside the calendar: the codes of each edition in the words of its document.
-- Assumes nothing.
use Prim.Native.Nat.{ℕ, ◌+◌, ◌-◌, ◌%◌, ◌≤◌, ◌<◌}
use native.Mathlib.Omega.{arith}
use mathlib.Core.Path.{◌≡◌, refl, sym, ◌∙◌}
use mathlib.Core.Bool.{Bool, true, false, not, ◌||◌}
use borrow.Author.Tests.{eqb-true, eqb-false, eq-eqb, ne_eqb}
use lib.Dec.{eqb}
use Rattle.record.specs.declared.Edition.{Edition}
use Rattle.record.specs.declared.Edition.TheVariants.{Of1984, Of1982}
use Rattle.calendar.specs.LeapCodes.{leap_code}
use Rattle.calendar.specs.Years.{first_year_of_span, last_year, leap_year, weekday_after, start_day_of}
use Rattle.calendar.proofs.Years.{leap_four, start_range}
use Rattle.calendar.proofs.LeapCodes.{of_four, same_code, code_again}

-- the code where this year is leap, where last year was, where next year is, and where none of the three is
pub record Codes : Type 0 where
  pub this : ℕ
  pub last : ℕ
  pub next : ℕ
  pub rest : ℕ

abbrev pub codes_in : Edition → Codes
codes_in Of1984 = record { this = 0; last = 1; next = 3; rest = 2 }
codes_in Of1982 = record { this = 3; last = 2; next = 1; rest = 0 }

-- they are those of four years
of_years : (edition : Edition) → codes_in edition ≡ record { this = leap_code edition 0; last = leap_code edition 1; next = leap_code edition 3; rest = leap_code edition 2 }
unfolding leap_code
of_years Of1984 = refl
of_years Of1982 = refl

same_test : (a b c d : ℕ) → (a ≡ b → c ≡ d) → (c ≡ d → a ≡ b) → eqb a b ≡ eqb c d
same_test a b c d f g = by (eqb c d) refl
  where
    by : (t : Bool) → eqb c d ≡ t → eqb a b ≡ t
    by true e = eq-eqb a b (g (eqb-true c d e))
    by false e = ne_eqb a b (λ p. eqb-false c d e (f p))

module _ (edition : Edition) (y : ℕ) (a : first_year_of_span ≤ y) (b : y ≤ last_year) where
  code_is : (k : ℕ) → eqb (leap_code edition y) (leap_code edition k) ≡ eqb (y % 4) (k % 4)
  code_is k = same_test _ _ (y % 4) (k % 4) (same_code edition y k) (code_again edition y k)

  pub code_this : eqb (leap_code edition y) (codes_in edition).this ≡ leap_year y
  code_this = rw (of_years edition) (code_is 0 ∙ sym (leap_four y a b))

  -- where last year is in the calendar
  pub code_last : first_year_of_span < y → eqb (leap_code edition y) (codes_in edition).last ≡ leap_year (y - 1)
  code_last h =
      rw (of_years edition)
      (code_is 1 ∙ same_test (y % 4) 1 ((y - 1) % 4) 0 (λ e. omega arith) (λ e. omega arith) ∙ sym (leap_four (y - 1) (omega arith) (omega arith)))

  -- where next year is in the calendar
  pub code_next : y < last_year → eqb (leap_code edition y) (codes_in edition).next ≡ leap_year (y + 1)
  code_next h =
      rw (of_years edition)
      (code_is 3 ∙ same_test (y % 4) 3 ((y + 1) % 4) 0 (λ e. omega arith) (λ e. omega arith) ∙ sym (leap_four (y + 1) (omega arith) (omega arith)))

  -- where all three are in the calendar
  pub code_rest : first_year_of_span < y → y < last_year → eqb (leap_code edition y) (codes_in edition).rest ≡ not (leap_year (y - 1) || (leap_year y || leap_year (y + 1)))
  code_rest h k =
      rw (← code_last h, ← code_this, ← code_next k, of_years edition, code_is 0, code_is 1, code_is 2, code_is 3)
      (of_four (λ n. eqb n 2 ≡ not (eqb n 1 || (eqb n 0 || eqb n 3))) refl refl refl refl (y % 4) (omega arith))

-- the start day is the weekday of 8 January too
pub eighth : (y : ℕ) → weekday_after 7 (start_day_of y) ≡ start_day_of y
eighth y = omega (arith, start_range y)
