-- `calendar::year::year_of` meets its contract. The loop's invariant: the years left from here give what all 28 give.
-- Assumes nothing.
use Rattle.std.proofs.Common.{arith, ◌≡◌, ℕ, suc, ◌+◌, ◌-◌, ◌<◌, ◌≤◌, Bool, false, cond, ◌&&◌, sym, ◌∙◌, eq-eqb}
use borrow.Author.Tests.{ne_eqb}
use lib.Dec.{eqb}
use Rattle.record.specs.declared.Edition.{Edition}
use Rattle.calendar.specs.LeapCodes.{leap_code}
use Rattle.calendar.specs.Years.{start_day_of, year_from}
use Rattle.calendar.proofs.year.year_of.Goals as goal
use Rattle.calendar.proofs.year.year_of.Goals.{else-start_day_of-start_day-via-then-start_day_of-start_day+else-leap_code-leap, else-start_day_of-start_day-via-else-start_day_of-start_day}

module _ (edition : Edition) (first start leap y : ℕ) where
  -- the year has the start day and the leap code
  abbrev hit : Bool
  hit = eqb (start_day_of y) start && eqb (leap_code edition y) leap

  -- what the years from one on give
  abbrev rest : ℕ → ℕ
  rest n = year_from edition (first + 28 - n) n start leap

  step : y < first + 28 → rest y ≡ cond hit y (rest (y + 1))
  unfolding year_from
  step h = let e : first + 28 - y ≡ suc (first + 28 - (y + 1)) = omega arith in rw e

  miss : y < first + 28 → hit ≡ false → rest (y + 1) ≡ rest y
  miss h e = sym (step h ∙ rw e)

  none : first + 28 ≤ y → rest y ≡ 0
  unfolding year_from
  none h = let e : first + 28 - y ≡ 0 = omega arith in rw e

pub returns-then-leap_code-leap : goal.returns-then-leap_code-leap
returns-then-leap_code-leap c =
    sym
    (sym c.loop-year.invariant
    ∙ step c.args.edition c.args.first_year c.args.start_day c.args.leap c.loop-year.year c.loop-year-test.true
    ∙ rw (eq-eqb _ _ (sym c.start_day_of.ensures ∙ c.if-start_day_of-start_day.true), eq-eqb _ _ (sym c.leap_code.ensures ∙ c.if-leap_code-leap.true)))

pub loop-year-preserved : goal.loop-year-preserved
loop-year-preserved c =
    let missed = miss c.args.edition c.args.first_year c.args.start_day c.args.leap c.loop-year.year c.loop-year-test.true in
    (elim c.else-start_day_of-start_day.branch [
      | else-start_day_of-start_day-via-then-start_day_of-start_day+else-leap_code-leap w ↦
          missed (rw (eq-eqb _ _ (sym c.start_day_of.ensures ∙ w.if-start_day_of-start_day.true), ne_eqb _ _ (λ e. w.if-leap_code-leap.false (w.leap_code.ensures ∙ e))))
      | else-start_day_of-start_day-via-else-start_day_of-start_day w ↦
          missed (rw (ne_eqb _ _ (λ e. w.if-start_day_of-start_day.false (c.start_day_of.ensures ∙ e))))
    ])
    ∙ c.loop-year.invariant

pub returns : goal.returns
returns c =
    sym
    (sym c.loop-year.invariant
    ∙ none c.args.edition c.args.first_year c.args.start_day c.args.leap c.loop-year.year c.loop-year-test.false)
