-- What it says that a report is proper, part by part: at most 2^32 blocks, and whole; and that bytes have room in it or not.
-- Assumes nothing.
use borrow.Author.Tests.{le-leb, leb-true, eq-eqb, eqb-true}
use mathlib.Core.Bool.{true, and-eq-true_iff, Bool-discrete}
use mathlib.Core.List.{List}
use mathlib.Core.Logic.Dec.{and}
use mathlib.Core.Path.{◌≡◌}
use Prim.Native.Nat.{ℕ, ◌+◌, ◌-◌, ◌/◌, ◌^◌, ◌≤◌}
use native.Mathlib.Omega.{arith}
use lib.ListN.{get_or, length}
use Rattle.std.proofs.Math.Decide.{dec_le}
use Rattle.reception.specs.Adding.{HasRoom}
use Rattle.reception.specs.Laws.{Whole}
use Rattle.reception.specs.Reports.{is_proper, total}
use Rattle.reception.specs.declared.Report.{Report}
use Rattle.reception.proofs.Totals.{place_le}

-- no number is above 2^32
pub record Small (r : Report) : Type 0 where
  pub blocks : r.blocks ≤ 2 ^ 32
  pub good : r.good ≤ 2 ^ 32
  pub fillers : r.fillers ≤ 2 ^ 32
  pub codes : total r.codes ≤ 2 ^ 32

module _ (r : Report) where
  pub parts : is_proper r ≡ true → (r.blocks ≤ 2 ^ 32) × Whole r
  unfolding is_proper
  parts e =
      let few = (and-eq-true_iff _ _).0 e in
      let good = (and-eq-true_iff _ _).0 few.1 in
      let fillers = (and-eq-true_iff _ _).0 good.1 in
      (leb-true _ _ few.0, record { good = leb-true _ _ good.0; fillers = leb-true _ _ fillers.0; codes = eqb-true _ _ fillers.1 })

  pub is_proper_lem : r.blocks ≤ 2 ^ 32 → Whole r → is_proper r ≡ true
  unfolding is_proper
  is_proper_lem few w =
      rw (le-leb r.blocks (2 ^ 32) few, le-leb r.good r.blocks w.good, le-leb r.fillers (get_or r.codes 0 0) w.fillers, eq-eqb (total r.codes) r.good w.codes)

  pub small : is_proper r ≡ true → Small r
  small e =
      let p = parts e in
      let first = place_le r.codes 0 in
      record { blocks = omega arith; good = omega arith; fillers = omega arith; codes = omega arith }

  pub has_room : (bytes : List ℕ) → is_proper r ≡ true → length bytes / 16 ≤ 2 ^ 32 - r.blocks → HasRoom r bytes
  has_room bytes e few = (e, omega (arith, small e))

  pub room : (bytes : List ℕ) → Dec (HasRoom r bytes)
  room bytes = and (Bool-discrete (is_proper r) true) (dec_le (r.blocks + length bytes / 16) (2 ^ 32))
