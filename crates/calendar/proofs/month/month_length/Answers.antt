-- `calendar::month::month_length` meets its contract: the table differs from the leap year's months in February only.
-- Assumes nothing.
use Prim.Native.Nat.{ℕ, zero, suc, ◌-◌}
use native.Mathlib.Omega.{arith}
use mathlib.Core.Path.{◌≡◌, refl}
use mathlib.Core.Bool.{Bool, false}
use mathlib.Core.List.{[], ◌∷◌}
use lib.ListN.{get_or}
use Rattle.calendar.specs.Days.{months}
use Rattle.calendar.proofs.month.month_length.Goals as goal
use Rattle.calendar.proofs.month.month_length.Goals.{then-month-eq2+else-leap, else-month-eq2}

table :
    (leap : Bool) (k : ℕ) →
    (k ≡ 1 → leap ≡ false) →
    get_or (31 ∷ 28 ∷ 31 ∷ 30 ∷ 31 ∷ 30 ∷ 31 ∷ 31 ∷ 30 ∷ 31 ∷ 30 ∷ 31 ∷ []) k 0 ≡ get_or (months leap) k 0
table leap zero h = refl
table leap (suc zero) h = rw (h refl)
table leap (suc (suc k)) h = refl

pub returns-then-leap : goal.returns-then-leap
returns-then-leap c = rw (c.if-month-eq2.true, c.if-leap.true)

pub returns : goal.returns
returns c =
    table c.args.leap (c.args.month - 1)
    (λ e. elim c.if-month-eq2.branch [ then-month-eq2+else-leap w ↦ w.if-leap.false | else-month-eq2 w ↦ absurd (w.if-month-eq2.false (omega arith)) ])
