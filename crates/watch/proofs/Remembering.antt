-- What is remembered bit by bit is remembered at once over a stretch in which only the last bit changes lock or the kind of the time.
-- Assumes nothing.
use Prim.Native.Nat.{ℕ, ◌+◌, ◌-◌, ◌≤◌}
use native.Mathlib.Nat.{add_assoc, add-zero}
use native.Mathlib.Omega.{arith}
use mathlib.Core.Path.{◌≡◌, refl, sym, ap}
use mathlib.Core.Bool.{Bool, true, false, cond, not, ◌&&◌}
use borrow.Author.Tests.{eqb-true, ltb-true, ltb-false, lt-ltb, le-ltb}
use lib.Dec.{eqb, ltb}
use Rattle.timekeeping.specs.Times.{none, candidate}
use Rattle.locking.specs.Locks.{locked}
use Rattle.receiver.specs.declared.PackedState.{PackedState}
use Rattle.receiver.specs.Changes.{same_lock}
use Rattle.watch.specs.declared.Watch.{Watch}
use Rattle.watch.specs.Watches.{none_unless, lets_go, since, loss_after, drop_after, displaced_after, remembered}

-- ---- each of the three bits, over a bit that changes neither lock nor the kind of the time and then the others

loss_on : (a b c m n lost : ℕ) → same_lock a b ≡ true → loss_after b c n (loss_after a b m lost) ≡ loss_after a c n lost
unfolding same_lock
loss_on a b c m n lost = by (eqb a locked) (eqb b locked) (eqb c locked)
  where
    by : (a b c : Bool) → cond a b (not b) ≡ true → cond (b && not c) n (cond (a && not b) m lost) ≡ cond (a && not c) n lost
    by true true c e = refl
    by true false c e = cc
    by false true c e = cc
    by false false c e = refl

held_same : (kind : ℕ) → lets_go kind kind ≡ false
held_same kind = by (eqb kind none)
  where
    by : (t : Bool) → (not t && t) ≡ false
    by true = refl
    by false = refl

-- a bit that is 0 unless there is something to remember stays as it is
kept_unless : (something : Bool) (bit : ℕ) → none_unless something bit ≡ true → cond something bit 0 ≡ bit
kept_unless true bit e = refl
kept_unless false bit e = sym (eqb-true bit 0 e)

same_tests : (a b : ℕ) → same_lock a b ≡ true → eqb a locked ≡ eqb b locked
unfolding same_lock
same_tests a b = by (eqb a locked) (eqb b locked)
  where
    by : (a b : Bool) → cond a b (not b) ≡ true → a ≡ b
    by true b e = sym e
    by false true e = cc
    by false false e = refl

drop_on : (a b c kind k m n dropped : ℕ) → same_lock a b ≡ true → none_unless (eqb a locked) dropped ≡ true
    → drop_after c kind k n (drop_after b kind kind m dropped) ≡ drop_after c kind k n dropped
drop_on a b c kind k m n dropped same unless =
    ap (λ (d : ℕ). drop_after c kind k n d) (rw (held_same kind) (kept_unless (eqb b locked) dropped (rw (same_tests a b same) at unless)))

-- the block of the candidate that is held at the end did not end among the later bits: then the same candidate was held before them
abbrev pub Same : ℕ → ℕ → ℕ → ℕ → ℕ → Type 0
Same kind k s t later = eqb k candidate ≡ true → later ≤ t → (t ≡ s + later) × (k ≡ kind)

among_same : (s t later : ℕ) → t ≡ s + later → ltb t (1 + later) ≡ ltb s 1
among_same s t later e = by (ltb s 1) refl
  where
    by : (x : Bool) → ltb s 1 ≡ x → ltb t (1 + later) ≡ x
    by true f = lt-ltb t (1 + later) (omega (arith, ltb-true s 1 f))
    by false f = le-ltb t (1 + later) (omega (arith, ltb-false s 1 f))

displaced_on : (kind k fed s t later displaced : ℕ) → Same kind k s t later
    → displaced_after kind k (fed + 1 + later) t later (displaced_after kind kind (fed + 1) s 1 displaced) ≡ displaced_after kind k (fed + (1 + later)) t (1 + later) displaced
displaced_on kind k fed s t later displaced same =
    by (eqb k candidate) refl (ltb t later) refl
  where
    by : (is : Bool) → eqb k candidate ≡ is → (among : Bool) → ltb t later ≡ among
        → displaced_after kind k (fed + 1 + later) t later (displaced_after kind kind (fed + 1) s 1 displaced) ≡ displaced_after kind k (fed + (1 + later)) t (1 + later) displaced
    by false e among f = rw e
    by true e true f = rw (e, f, lt-ltb t (1 + later) (omega (arith, ltb-true t later f)), add_assoc fed 1 later)
    by true e false f =
        let old = same e (ltb-false t later f) in
        let n : fed + (1 + later) - t ≡ fed + 1 - s = omega (arith, old.0) in
        rw (e, f, among_same s t later old.0, n, ← old.1, e)

-- ---- the watch

-- what a proper watch remembers fits
pub record Fits (w : Watch) : Type 0 where
  pub lost : w.lost ≤ w.fed
  pub dropped : w.dropped ≤ w.fed
  pub displaced : w.displaced ≤ w.fed
  pub drop_unless : none_unless (eqb w.state.mode locked) w.dropped ≡ true
  pub displaced_unless : none_unless (eqb w.state.time candidate) w.displaced ≡ true

-- no bit more changes nothing
pub none_more : (w : Watch) → Fits w → remembered w w.state 0 ≡ w
unfolding remembered
none_more w f =
    rw (
      add-zero w.fed,
      loss_same w.state.mode w.fed w.lost,
      held_same w.state.time,
      kept_unless (eqb w.state.mode locked) w.dropped f.drop_unless,
      le-ltb (since w.state) 0 (omega arith),
      kept_unless (eqb w.state.time candidate) w.displaced f.displaced_unless,
    )
  where
    loss_same : (mode n lost : ℕ) → loss_after mode mode n lost ≡ lost
    loss_same mode n lost = by (eqb mode locked)
      where
        by : (t : Bool) → cond (t && not t) n lost ≡ lost
        by true = refl
        by false = refl

-- one bit, which changes neither lock nor the kind of the time, and then the others
pub one_more : (w : Watch) (p q : PackedState) (later : ℕ) → Fits w → same_lock w.state.mode p.mode ≡ true → p.time ≡ w.state.time
    → Same p.time q.time (since p) (since q) later → remembered (remembered w p 1) q later ≡ remembered w q (1 + later)
unfolding remembered
one_more w p q later f same kind block =
    rw (
      kind,
      loss_on w.state.mode p.mode q.mode (w.fed + 1) (w.fed + 1 + later) w.lost same,
      drop_on w.state.mode p.mode q.mode w.state.time q.time (w.fed + 1) (w.fed + 1 + later) w.dropped same f.drop_unless,
      displaced_on w.state.time q.time w.fed (since p) (since q) later w.displaced (rw kind at block),
      add_assoc w.fed 1 later,
    )
