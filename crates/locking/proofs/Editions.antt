-- Lock knows no edition: a judged window counts the same and leaves the same lock in each, whatever time is held; only the time differs.
-- Assumes nothing.
use Prim.Native.Nat.{ℕ, ◌+◌}
use mathlib.Core.Path.{◌≡◌, refl}
use mathlib.Core.Bool.{Bool, true, false, cond}
use lib.Dec.{eqb, leb}
use Rattle.block.specs.Read.{remainder_read}
use Rattle.std.specs.Prelude.{Result}
use Rattle.block.specs.declared.Body.{Body}
use Rattle.block.specs.declared.Refused.{Refused}
use Rattle.record.specs.declared.Edition.{Edition}
use Rattle.locking.specs.declared.Blocks.{Blocks}
use Rattle.locking.specs.declared.Judged.{Judged}
use Rattle.locking.specs.declared.Lock.{Lock}
use Rattle.locking.specs.Locks.{hunting, trying}
use Rattle.locking.specs.Modes.{is_good, bad_block, hunted, tried, held_on, judged_by}

-- two choices by one test, related in each case
pub both : {X : Type 0} (R : X → X → Type 0) (c : Bool) {x y v w : X} → R x v → R y w → R (cond c x y) (cond c v w)
both R true a b = a
both R false a b = b

-- the same lock, times apart
pub record Alike (l k : Lock) : Type 0 where
  pub mode : l.mode ≡ k.mode
  pub good : l.good ≡ k.good
  pub bad : l.bad ≡ k.bad

pub record SameJudgement (j i : Judged) : Type 0 where
  pub blocks : j.blocks ≡ i.blocks
  pub passed : j.passed ≡ i.passed
  pub lock : Alike j.lock i.lock

same_lock_lem : (blocks : Blocks) (passed : ℕ) {l k : Lock} → Alike l k
    → SameJudgement (record { blocks = blocks; passed = passed; lock = l }) (record { blocks = blocks; passed = passed; lock = k })
same_lock_lem blocks passed a = record { blocks = refl; passed = refl; lock = a }

same : (j : Judged) → SameJudgement j j
same j = record { blocks = refl; passed = refl; lock = record { mode = refl; good = refl; bad = refl } }

pub judged_alike : (a b : Edition) (l k : Lock) (w : Result Body Refused) → Alike l k → SameJudgement (judged_by a l w) (judged_by b k w)
unfolding judged_by held_on
judged_alike a b l k w e =
    rw (e.mode, e.good, e.bad)
    (both SameJudgement (eqb k.mode hunting) (same (hunted w))
    (both SameJudgement (eqb k.mode trying) (same (tried k.good w))
    (both SameJudgement (is_good w) (same_lock_lem _ 0 (record { mode = refl; good = refl; bad = refl }))
    (both (λ x y. SameJudgement (bad_block (remainder_read w) x) (bad_block (remainder_read w) y)) (leb 4 (k.bad + 1)) (same _)
    (same_lock_lem _ 0 (record { mode = refl; good = refl; bad = refl }))))))
