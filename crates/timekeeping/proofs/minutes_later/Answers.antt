-- `minutes_later` meets its contract: each minute is the next of the one before, and a refusal stays.
-- Assumes nothing.
use Rattle.std.proofs.Common.{ℕ, zero, suc, ◌+◌, ◌-◌, ◌≤◌, ◌≡◌, arith, add-one}
use Rattle.std.proofs.lemmas.Result.{err_from_is_err_and}
use Rattle.std.specs.Prelude.{Err}
use native.Mathlib.Numerals.{unary_clauses}
use Rattle.refusal.specs.declared.Refusal.{Refusal}
use Rattle.record.specs.declared.Edition.{Edition}
use Rattle.record.specs.declared.Record.{Record}
use Rattle.calendar.specs.MinutesLater.{minutes_later}
use Rattle.timekeeping.proofs.minutes_later.Goals as goal

module _ (edition : Edition) (r : Record) (why : Refusal) where
  later : (k more : ℕ) → minutes_later edition k r ≡ Err why → minutes_later edition (k + more) r ≡ Err why
  unfolding minutes_later
  later k zero e = simp unary_clauses e
  later k (suc more) e = simp unary_clauses (rw (later k more e))

  -- what is refused after some minutes is refused after more
  stays : (k n : ℕ) → k ≤ n → minutes_later edition k r ≡ Err why → minutes_later edition n r ≡ Err why
  stays k n h e = let sum : k + (n - k) ≡ n = omega arith in rw (← sum) (later k (n - k) e)

pub returns-in_err-later : goal.returns-in_err-later
unfolding minutes_later
returns-in_err-later c =
    let p = err_from_is_err_and c.from_residual.result c.from_residual.ensures.1 in
    rw (p.1, p.2) (rw (stays c.args.edition c.args.held c.in_err-later.field-0.0 1 c.args.minutes (omega arith) (grind arith)))

pub loop-init : goal.loop-init
unfolding minutes_later
loop-init c = grind arith

pub loop-preserved : goal.loop-preserved
unfolding minutes_later
loop-preserved c = rw (add-one c.loop.counter, c.loop.invariant) (grind arith)

pub returns-in_err-later-2 : goal.returns-in_err-later-2
unfolding minutes_later
returns-in_err-later-2 c =
    let p = err_from_is_err_and c.from_residual-in_err-later-2.result c.from_residual-in_err-later-2.ensures.1 in
    let at = c.loop.counter in
    rw (p.1, p.2) (rw (stays c.args.edition c.args.held c.in_err-later-2.field-0.0 (at + 1) c.args.minutes (omega arith) (rw (add-one at, c.loop.invariant) (grind arith))))

pub returns : goal.returns
returns c = let end : c.loop.counter ≡ c.args.minutes = omega arith in rw (← end, c.loop.invariant)
