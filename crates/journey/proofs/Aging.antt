-- A time that some blocks age, one after the other: none stays none, and a record grows older by as many blocks and is gone at the last
-- age.
-- Assumes nothing.
use Prim.Native.Nat.{ℕ, zero, suc, ◌+◌, ◌≤◌, ◌<◌}
use native.Mathlib.Nat.{add-zero}
use native.Mathlib.Omega.{arith}
use mathlib.Core.Path.{◌≡◌, refl}
use borrow.Author.Tests.{ne_eqb, le-leb, lt-leb}
use Rattle.record.specs.declared.Record.{Record}
use Rattle.timekeeping.specs.declared.Time.{Time}
use Rattle.timekeeping.specs.Times.{none, candidate, time_of, no_time, aged_by}

unfoldable pub aged_all : Time → ℕ → Time
aged_all t zero = t
aged_all t (suc n) = aged_all (aged_by t) n

pub none_stays : (n : ℕ) → aged_all no_time n ≡ no_time
unfolding aged_all aged_by
none_stays zero = refl
none_stays (suc n) = none_stays n

module _ (kind : ℕ) (held : candidate ≤ kind) (r : Record) where
  ages : (age : ℕ) → age + 1 < 120 → aged_by (time_of kind r age) ≡ time_of kind r (age + 1)
  unfolding aged_by
  ages age h = rw (ne_eqb kind none (λ z. omega arith), lt-leb 120 (age + 1) h)

  goes : (age : ℕ) → 120 ≤ age + 1 → aged_by (time_of kind r age) ≡ no_time
  unfolding aged_by
  goes age h = rw (ne_eqb kind none (λ z. omega arith), le-leb 120 (age + 1) h)

  pub grows_older : (age n : ℕ) → age + n < 120 → aged_all (time_of kind r age) n ≡ time_of kind r (age + n)
  unfolding aged_all
  grows_older age zero h = rw (add-zero age)
  grows_older age (suc n) h =
      let e : age + 1 + n ≡ age + suc n = omega arith in
      rw (ages age (omega arith), ← e) (grows_older (age + 1) n (omega arith))

  pub is_gone : (age n : ℕ) → age < 120 → age + n ≡ 120 → aged_all (time_of kind r age) n ≡ no_time
  unfolding aged_all
  is_gone age zero h e = absurd (omega arith)
  is_gone age (suc zero) h e = goes age (omega arith)
  is_gone age (suc (suc n)) h e = rw (ages age (omega arith)) (is_gone (age + 1) (suc n) (omega arith) (omega arith))
