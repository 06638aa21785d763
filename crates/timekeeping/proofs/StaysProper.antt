-- A proper time stays proper, whatever block is offered: it holds what was read as usable, at an age below 120.
-- Assumes nothing.
use Rattle.std.proofs.Common.{ℕ, ◌+◌, ◌≡◌, refl, ap, true, false, is_ok, arith}
use Rattle.std.proofs.lemmas.Bool.Decides.{nat_tests}
use lib.Dec.{eqb, leb}
use Rattle.std.specs.Prelude.{Result, Ok, Err}
use Rattle.refusal.specs.declared.Refusal.{Refusal}
use Rattle.block.specs.declared.Body.{Body}
use Rattle.block.specs.declared.Refused.{Refused}
use Rattle.record.specs.declared.Edition.{Edition}
use Rattle.record.specs.declared.Record.{Record}
use Rattle.record.specs.Words as words
use Rattle.calendar.specs.Dates.{usable_of}
use Rattle.calendar.proofs.Answers.{usable_given}
use Rattle.timekeeping.specs.declared.Time.{Time}
use Rattle.timekeeping.specs.Times.{none, time_of, then_usable, usable_in, confirms, renewed_by, aged_by, offered_to}
use Rattle.timekeeping.specs.Proper.{is_zero_record, is_no_time, time_proper}
use Rattle.timekeeping.proofs.Choices.{cond_elim}

module _ (edition : Edition) where
  -- what is read as usable is usable
  pub usable_in_lem : (w : Result Body Refused) (r : Record) → usable_in edition w ≡ Ok r → usable_of edition r ≡ Ok r
  unfolding usable_in
  usable_in_lem (Ok body) r e = go (words.read_of edition body.code body.word) e
    where
      go : (u : Result Record Refusal) → then_usable edition u ≡ Ok r → usable_of edition r ≡ Ok r
      go (Ok u) e = rw (usable_given edition u r e).0 at e
      go (Err why) e = cc
  usable_in_lem (Err refused) r e = cc

  older : (t : Time) → time_proper edition t ≡ true → eqb t.kind none ≡ false → leb 120 (t.age + 1) ≡ false → time_proper edition (time_of t.kind t.held (t.age + 1)) ≡ true
  unfolding time_proper
  older t e held young = grind (arith, nat_tests)

  -- what an offered block leaves is proper
  pub time_offered : (t : Time) (u : Result Record Refusal) → ((r : Record) → u ≡ Ok r → usable_of edition r ≡ Ok r) → time_proper edition t ≡ true → time_proper edition (offered_to edition t u) ≡ true
  unfolding time_proper renewed_by aged_by offered_to is_no_time is_zero_record
  time_offered t (Ok r) usable e =
      let g : is_ok (usable_of edition r) ≡ true = ap is_ok (usable r refl) in
      let P : ℕ → Type 0 = λ k. time_proper edition (time_of k r 0) ≡ true in
      cond_elim P (eqb t.kind none) (λ _. g) (λ _. cond_elim P (confirms edition (t.age + 1) t.held r) (λ _. g) (λ _. g))
  time_offered t (Err why) usable e =
      cond_elim (λ (t : Time). time_proper edition t ≡ true) (eqb t.kind none) (λ _. refl)
      (λ held. cond_elim (λ (t : Time). time_proper edition t ≡ true) (leb 120 (t.age + 1)) (λ _. refl) (older t e held))
