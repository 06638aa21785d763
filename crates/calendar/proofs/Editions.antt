-- The leap codes of two editions correspond: a code that is told anew says of a year, and of the next one, what it said before. So a date's
-- record in one edition is its record in the other with the code told anew.
-- Assumes nothing.
use Prim.Native.Nat.{ℕ, ◌+◌, ◌%◌, ◌≤◌}
use native.Mathlib.Omega.{arith}
use mathlib.Core.Path.{◌≡◌, sym, ap, ◌∙◌}
use Rattle.record.specs.declared.Edition.{Edition}
use Rattle.record.specs.declared.Record.{Record}
use Rattle.calendar.specs.declared.Date.{Date}
use Rattle.calendar.specs.LeapCodes.{leap_code, says_leap, next_leap_code}
use Rattle.calendar.specs.Dates.{coded_year, record_at}
use Rattle.calendar.proofs.LeapCodes.{since_leap, code_range, since_of_year, year_since, code_again, says, next_code}

-- the code that says in the edition `to` what a code says in the edition `from`
abbrev pub told_anew : Edition → Edition → ℕ → ℕ
told_anew from to code = leap_code to (since_leap from code)

pub record Correspond (from to : Edition) : Type 0 where
  -- four codes become four codes, and back again
  pub range : (code : ℕ) → told_anew from to code ≤ 3
  pub back : (code : ℕ) → code ≤ 3 → told_anew to from (told_anew from to code) ≡ code
  -- the code of a year becomes the code of the year, and says of it and of the next year what it said
  pub of_year : (y : ℕ) → told_anew from to (leap_code from y) ≡ leap_code to y
  pub leap : (code : ℕ) → code ≤ 3 → says_leap to (told_anew from to code) ≡ says_leap from code
  pub next : (code : ℕ) → code ≤ 3 → next_leap_code to (told_anew from to code) ≡ told_anew from to (next_leap_code from code)

module _ (from to : Edition) where
  of_year : (y : ℕ) → told_anew from to (leap_code from y) ≡ leap_code to y
  of_year y = ap (leap_code to) (since_of_year from y) ∙ code_again to (y % 4) y (omega arith)

  -- every code is that of a year, and told anew it is that of the same year
  code_known : (code : ℕ) → code ≤ 3 → leap_code from (since_leap from code) ≡ code
  code_known code h = let since = year_since from code h in since.1 (since_leap from code) (omega (arith, since.0))

  says_same : (code : ℕ) → code ≤ 3 → says_leap to (told_anew from to code) ≡ says_leap from code
  says_same code h = let y = since_leap from code in says to y ∙ sym (says from y) ∙ ap (says_leap from) (code_known code h)

  next_same : (code : ℕ) → code ≤ 3 → next_leap_code to (told_anew from to code) ≡ told_anew from to (next_leap_code from code)
  next_same code h =
      let y = since_leap from code in
      next_code to y ∙ sym (of_year (y + 1)) ∙ ap (told_anew from to) (sym (next_code from y) ∙ ap (next_leap_code from) (code_known code h))

pub correspond : (from to : Edition) → Correspond from to
correspond from to =
    record {
      range = λ code. code_range to (since_leap from code);
      back = λ code h. of_year to from (since_leap from code) ∙ code_known from to code h;
      of_year = of_year from to;
      leap = says_same from to;
      next = next_same from to;
    }

-- a record with its code told anew
abbrev pub record_anew : Edition → Edition → Record → Record
record_anew from to r =
    record {
      leap = told_anew from to r.leap;
      start_day = r.start_day;
      week = r.week;
      weekday = r.weekday;
      hour = r.hour;
      minute = r.minute;
      offset = r.offset;
    }

pub same_date : (from to : Edition) (d : Date) → record_anew from to (record_at from d) ≡ record_at to d
unfolding record_at
same_date from to d = rw (of_year from to (coded_year d))
