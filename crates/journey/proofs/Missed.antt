-- Missed minutes do not end the lock: a good block stands before each missed one, so no two bad ones are neighbours. And a damaged
-- block is missed, because it is refused.
-- Assumes nothing.
use Prim.Native.Nat.{ℕ, ◌*◌, ◌<◌}
use native.Mathlib.Omega.{arith}
use mathlib.Core.Path.{◌≡◌, refl, sym, ◌∙◌}
use mathlib.Core.Bool.{Bool, true, false}
use mathlib.Core.List.{List, [], ◌∷◌, ◌++◌, append_assoc, append-nil}
use lib.Dec.{eqb}
use lib.ListN.{length, length-append}
use Rattle.std.proofs.Common.{Result, Ok, Err, is_ok}
use Rattle.block.specs.Bits.{xors}
use Rattle.block.specs.Block.{prefix_in}
use Rattle.block.specs.Read.{read_of, refusal_in}
use Rattle.block.specs.declared.Body.{Body}
use Rattle.block.specs.declared.Refused.{Refused}
use Rattle.block.proofs.Strings.{length_xors, bits_xors}
use Rattle.detection.specs.Damage.{refused_with}
use Rattle.detection.proofs.Damage.{damage_refused}
use Rattle.detection.proofs.Refusal.{refused_not_zero}
use Rattle.record.specs.declared.Edition.{Edition}
use Rattle.timekeeping.specs.Times.{usable_in}
use Rattle.locking.specs.Modes.{is_good}
use Rattle.journey.specs.Journey.{Other, Each, bad_run, LockHolds, Quiet, Missed, heard, DamagedIsOther}

-- ---- the lock

-- a good block ends the run of bad ones
pub good_ends : (bad : ℕ) (v : Result Body Refused) → is_good v ≡ true → bad_run bad v ≡ 0
good_ends bad (Ok body) e = refl
good_ends bad (Err why) e = cc

one_bad : (v : Result Body Refused) → bad_run 0 v < 4
one_bad (Ok body) = omega arith
one_bad (Err why) = omega arith

-- so over some good blocks lock holds, whatever run of bad ones came before
good_hold : (bad : ℕ) (ws rest : List (List ℕ)) → 0 < length ws → Each (λ w. is_good (read_of w) ≡ true) ws → LockHolds 0 rest → LockHolds bad (ws ++ rest)
good_hold bad [] rest some g h = absurd (omega arith)
good_hold bad (w ∷ []) rest some g h = rw (good_ends bad (read_of w) g.0) (omega arith, h)
good_hold bad (w ∷ v ∷ ws) rest some g h = rw (good_ends bad (read_of w) g.0) (omega arith, good_hold 0 (v ∷ ws) rest (omega arith) g.1 h)

module _ (edition : Edition) where
  -- ---- their blocks

  pub others_append : (ws vs : List (List ℕ)) → Each (Other edition) ws → Each (Other edition) vs → Each (Other edition) (ws ++ vs)
  others_append [] vs a b = b
  others_append (w ∷ ws) vs a b = (a.0, others_append ws vs a.1 b)

  pub heard_others : (ms : List (Missed edition)) → Each (Other edition) (heard ms)
  heard_others [] = tt
  heard_others (m ∷ ms) = others_append m.before (m.block ∷ heard ms) m.quiet.others (m.other, heard_others ms)

  pub heard_length : (ms : List (Missed edition)) → length (heard ms) ≡ 30 * length ms
  heard_length [] = omega arith
  heard_length (m ∷ ms) = length-append m.before (m.block ∷ heard ms) ∙ omega (arith, m.quiet.count, heard_length ms)

  quiet_holds : (bad : ℕ) (ws rest : List (List ℕ)) → Quiet edition ws → LockHolds 0 rest → LockHolds bad (ws ++ rest)
  quiet_holds bad ws rest q = good_hold bad ws rest (omega (arith, q.count)) q.good

  pub missed_hold : (bad : ℕ) (ms : List (Missed edition)) (before : List (List ℕ)) → Quiet edition before → LockHolds bad (heard ms ++ before)
  missed_hold bad [] before q = rw append-nil at (quiet_holds bad before [] q tt)
  missed_hold bad (m ∷ ms) before q =
      rw append_assoc
      (quiet_holds bad m.before (m.block ∷ (heard ms ++ before)) m.quiet (one_bad (read_of m.block), missed_hold (bad_run 0 (read_of m.block)) ms before q))

  -- ---- damage

  refused : (prefix : Bool) (v : Result Body Refused) → refusal_in v ≡ refused_with prefix → is_ok (usable_in edition v) ≡ false
  unfolding usable_in
  refused prefix (Ok body) e = absurd (refused_not_zero prefix e)
  refused prefix (Err why) e = refl

pub damaged_is_other : DamagedIsOther
damaged_is_other edition s e g p d =
    record {
      size = length_xors s e (g.size ∙ sym p.size) ∙ g.size;
      bits = bits_xors s e g.bits p.bits;
      unusable = refused edition (eqb (prefix_in e) 1) (read_of (xors s e)) (damage_refused s e g p d);
    }
