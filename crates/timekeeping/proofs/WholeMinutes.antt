-- A record confirms exactly where the held one is one to four whole minutes old and it is that many minutes later: the quotient of
-- the age is that number.
-- Assumes nothing.
use Prim.Native.Nat.{ℕ, ◌*◌, ◌/◌, ◌%◌, ◌≤◌}
use native.Mathlib.Omega.{arith}
use mathlib.Core.Path.{◌≡◌}
use mathlib.Core.Bool.{true}
use mathlib.Core.Logic.{◌↔◌}
use borrow.Author.Tests.{eq-eqb}
use Rattle.std.proofs.lemmas.Bool.Decides.{nat_tests}
use Rattle.record.specs.declared.Edition.{Edition}
use Rattle.record.specs.declared.Record.{Record}
use Rattle.record.proofs.Tests.{is_within}
use Rattle.timekeeping.specs.Times.{follows, confirms}

module _ (edition : Edition) where
  pub record AfterMinutes (age : ℕ) (held r : Record) : Type 0 where
    pub minutes : ℕ
    pub from : 1 ≤ minutes
    pub to : minutes ≤ 4
    pub whole : age ≡ 30 * minutes
    pub later : follows edition minutes held r ≡ true

  module _ (age : ℕ) (held r : Record) where
    after : confirms edition age held r ≡ true → AfterMinutes age held r
    unfolding confirms
    after e = record { minutes = age / 30; from = grind (arith, nat_tests); to = grind (arith, nat_tests); whole = grind (arith, nat_tests); later = grind (arith, nat_tests) }

    by_minutes : AfterMinutes age held r → confirms edition age held r ≡ true
    unfolding confirms
    by_minutes m =
        let minutes : age / 30 ≡ m.minutes = omega (arith, m.whole) in
        rw (is_within 30 age 120 (omega (arith, m.whole, m.from)) (omega (arith, m.whole, m.to)), eq-eqb (age % 30) 0 (omega (arith, m.whole)), minutes) m.later

    pub confirms_exactly : (confirms edition age held r ≡ true) ↔ AfterMinutes age held r
    confirms_exactly = (after, by_minutes)
