-- A proper watch stays proper with each bit; and what it remembers after a stretch that ends at the first change is what it remembers
-- bit by bit.
-- Assumes nothing.
use Prim.Native.Nat.{ℕ, ◌+◌, ◌≤◌, ◌<◌}
use native.Mathlib.Omega.{arith}
use mathlib.Core.Path.{◌≡◌, refl, sym, ap, ◌∙◌}
use mathlib.Core.Bool.{Bool, true, false, cond, ◌&&◌, and-eq-true_iff}
use mathlib.Core.List.{List, [], ◌∷◌, ◌++◌}
use borrow.Author.Tests.{eqb-true, leb-true, le-leb}
use lib.Dec.{eqb, leb, ltb}
use lib.ListN.{length}
use Rattle.block.specs.Bits.{Bits}
use Rattle.record.specs.declared.Edition.{Edition}
use Rattle.timekeeping.specs.Times.{candidate}
use Rattle.timekeeping.proofs.Choices.{cond_elim}
use Rattle.locking.specs.Locks.{locked}
use Rattle.receiver.specs.declared.PackedState.{PackedState}
use Rattle.receiver.specs.declared.State.{State}
use Rattle.receiver.specs.declared.Until.TheVariants.{AnyChange}
use Rattle.receiver.specs.States.{lock_in}
use Rattle.receiver.specs.Steps.{step_of}
use Rattle.receiver.specs.History.{after_from}
use Rattle.receiver.specs.Packed.{packed, unpacked, packed_proper}
use Rattle.receiver.specs.Changes.{same_lock, runs_on, up_to}
use Rattle.receiver.proofs.StaysProper.{Proper, room, step_proper}
use Rattle.receiver.proofs.Layouts.{proper_fifty, there_and_back, packed_proper_lem, fresh_packed_proper, back_and_there, proper_small, proper_unpacked}
use Rattle.watch.specs.declared.Watch.{Watch}
use Rattle.watch.specs.Watches.{fresh_watch, none_unless, is_held, lets_go, loses_lock, since, watch_proper, remembered, watch_next, watch_after}
use Rattle.watch.proofs.Since.{after_held}
use Rattle.watch.proofs.Remembering.{Fits, none_more, one_more}

-- ---- proper

none_unless_lem : (something : Bool) (bit : ℕ) → none_unless something (cond something bit 0) ≡ true
none_unless_lem true bit = refl
none_unless_lem false bit = refl

-- a candidate is held
pub is_held_lem : (kind : ℕ) → eqb kind candidate ≡ true → is_held kind ≡ true
is_held_lem kind e = rw (eqb-true kind candidate e)

-- what is remembered later fits again
fits_more : (w : Watch) (p : PackedState) (latest : ℕ) → Fits w → Fits (remembered w p latest)
unfolding remembered
fits_more w p latest f =
    let n : ℕ = w.fed + latest in
    let P : ℕ → Type 0 = λ m. m ≤ n in
    record {
      lost = cond_elim P (loses_lock w.state.mode p.mode) (λ _. omega arith) (λ _. omega (arith, f.lost));
      dropped = cond_elim P (eqb p.mode locked) (λ _. cond_elim P (lets_go w.state.time p.time) (λ _. omega arith) (λ _. omega (arith, f.dropped))) (λ _. omega arith);
      displaced = cond_elim P (eqb p.time candidate)
          (λ _.
          cond_elim P (ltb (since p) latest) (λ _. cond_elim P (is_held w.state.time) (λ _. omega arith) (λ _. omega arith))
          (λ _. omega (arith, f.displaced)))
          (λ _. omega arith);
      drop_unless = none_unless_lem (eqb p.mode locked) _;
      displaced_unless = none_unless_lem (eqb p.time candidate) _;
    }

module _ (edition : Edition) where
  -- a proper watch has a proper state, and what it remembers fits
  pub proper_fits : (w : Watch) → watch_proper edition w ≡ true → (packed_proper edition w.state ≡ true) × Fits w
  unfolding watch_proper
  proper_fits w e =
      let state = (and-eq-true_iff (packed_proper edition w.state) _).0 e in
      let ahead = (and-eq-true_iff _ (none_unless (eqb w.state.mode locked) w.dropped && none_unless (eqb w.state.time candidate) w.displaced)).0 state.1 in
      let lost = (and-eq-true_iff (leb w.lost w.fed) _).0 ahead.0 in
      let dropped = (and-eq-true_iff (leb w.dropped w.fed) (leb w.displaced w.fed)).0 lost.1 in
      let unless = (and-eq-true_iff (none_unless (eqb w.state.mode locked) w.dropped) _).0 ahead.1 in (
        state.0,
        record {
          lost = leb-true w.lost w.fed lost.0;
          dropped = leb-true w.dropped w.fed dropped.0;
          displaced = leb-true w.displaced w.fed dropped.1;
          drop_unless = unless.0;
          displaced_unless = unless.1;
        },
      )

  fits_proper : (w : Watch) → packed_proper edition w.state ≡ true → Fits w → watch_proper edition w ≡ true
  unfolding watch_proper
  fits_proper w e f =
      (and-eq-true_iff _ _).1 (
        e,
        (and-eq-true_iff _ _).1 (
          (and-eq-true_iff _ _).1 (le-leb w.lost w.fed f.lost, (and-eq-true_iff _ _).1 (le-leb w.dropped w.fed f.dropped, le-leb w.displaced w.fed f.displaced)),
          (and-eq-true_iff _ _).1 (f.drop_unless, f.displaced_unless),
        ),
      )

  pub fresh_watch_proper : watch_proper edition fresh_watch ≡ true
  fresh_watch_proper =
      fits_proper fresh_watch (fresh_packed_proper edition)
      (record { lost = omega arith; dropped = omega arith; displaced = omega arith; drop_unless = refl; displaced_unless = refl })

  module _ (w : Watch) (e : watch_proper edition w ≡ true) where
    pub state_proper : Proper edition (unpacked w.state)
    state_proper = proper_unpacked edition w.state (proper_fits w e).0

    module _ (b : ℕ) (bit : b < 2) where
      stepped : Proper edition (step_of edition (unpacked w.state) b).next
      stepped = step_proper edition (unpacked w.state) b bit state_proper

      pub next_proper : watch_proper edition (watch_next edition w b) ≡ true
      unfolding remembered
      next_proper = fits_proper (watch_next edition w b) (packed_proper_lem edition _ stepped) (fits_more w _ 1 (proper_fits w e).1)

      pub next_state : unpacked (watch_next edition w b).state ≡ (step_of edition (unpacked w.state) b).next
      unfolding remembered
      next_state = there_and_back _ (proper_fifty edition _ stepped)

  pub after_proper : (w : Watch) (bs : List ℕ) → Bits bs → watch_proper edition w ≡ true → watch_proper edition (watch_after edition w bs) ≡ true
  unfolding watch_after
  after_proper w [] h e = e
  after_proper w (b ∷ bs) h e = after_proper (watch_next edition w b) bs h.1 (next_proper w e b h.0)

  pub after_append : (w : Watch) (xs ys : List ℕ) → watch_after edition w (xs ++ ys) ≡ watch_after edition (watch_after edition w xs) ys
  unfolding watch_after
  after_append w [] ys = refl
  after_append w (x ∷ xs) ys = after_append (watch_next edition w x) xs ys

  -- ---- a stretch

  -- a watch after a stretch, from what it remembered before
  abbrev Stretched : Watch → State → List ℕ → Type 0
  Stretched w s part = watch_after edition w part ≡ remembered w (packed (after_from edition s part)) (length part)

  pub stretch : (w : Watch) (bs : List ℕ) → Bits bs → watch_proper edition w ≡ true → Stretched w (unpacked w.state) (up_to edition AnyChange (unpacked w.state) bs)
  unfolding watch_after up_to after_from runs_on
  stretch w [] h e =
      let f = proper_fits w e in
      sym (ap (λ (p : PackedState). remembered w p 0) (back_and_there w.state (proper_small edition w.state f.0)) ∙ none_more w f.1)
  stretch w (b ∷ bs) h e = by (runs_on AnyChange (lock_in (unpacked w.state)) (lock_in (step_of edition (unpacked w.state) b).next)) refl (stretch (watch_next edition w b) bs h.1 (next_proper w e b h.0))
    where
      by : (on : Bool) → runs_on AnyChange (lock_in (unpacked w.state)) (lock_in (step_of edition (unpacked w.state) b).next) ≡ on
          → Stretched (watch_next edition w b) (unpacked (watch_next edition w b).state) (up_to edition AnyChange (unpacked (watch_next edition w b).state) bs)
          → Stretched w (unpacked w.state) (up_to edition AnyChange (unpacked w.state) (b ∷ bs))
      by true on more =
          let s : State = unpacked w.state in
          let t : State = (step_of edition s b).next in
          let part : List ℕ = up_to edition AnyChange t bs in
          let both = (and-eq-true_iff (same_lock s.mode t.mode) (eqb s.time t.time)).0 on in
          let n : 1 + length part ≡ length (b ∷ part) = omega arith in
          rw (on, ← n) (rw (next_state w e b h.0) at more ∙ one_more w (packed t) (packed (after_from edition t part)) (length part) (proper_fits w e).1 both.0 (sym (eqb-true s.time t.time both.1))
          (λ k. after_held edition t part (room edition t (stepped w e b h.0).proper) (is_held_lem (after_from edition t part).time k)))
      by false on more = rw on
