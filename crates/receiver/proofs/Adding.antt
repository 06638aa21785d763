-- Blocks add up: none at either end changes nothing, and it is the same which are added first. Of the remainders the last one that is
-- not 0 stays.
-- Assumes nothing.
use Prim.Native.Nat.{ℕ}
use native.Mathlib.Nat.{add_assoc, add-zero, zero-add}
use mathlib.Core.Path.{◌≡◌, refl, sym}
use mathlib.Core.Bool.{Bool, true, false}
use borrow.Author.Tests.{eqb-true}
use lib.Dec.{eqb}
use Rattle.locking.specs.declared.Blocks.{Blocks}
use Rattle.locking.specs.Modes.{no_blocks}
use Rattle.receiver.specs.Runs.{later, plus}

none_later : (r : ℕ) → later 0 r ≡ r
none_later r = by (eqb r 0) refl
  where
    by : (t : Bool) → eqb r 0 ≡ t → later 0 r ≡ r
    by true e = rw e (sym (eqb-true r 0 e))
    by false e = rw e

later_assoc : (a b c : ℕ) → later (later a b) c ≡ later a (later b c)
later_assoc a b c = by (eqb c 0) refl
  where
    by : (t : Bool) → eqb c 0 ≡ t → later (later a b) c ≡ later a (later b c)
    by true e = rw e
    by false e = rw (e, e)

module _ (a : Blocks) where
  pub none_plus : plus no_blocks a ≡ a
  none_plus = rw (zero-add a.good, zero-add a.bad, none_later a.remainder)

  pub plus_none : plus a no_blocks ≡ a
  plus_none = rw (add-zero a.good, add-zero a.bad)

  pub plus_assoc : (b c : Blocks) → plus (plus a b) c ≡ plus a (plus b c)
  plus_assoc b c = rw (add_assoc a.good, add_assoc a.bad, later_assoc a.remainder)
