-- Confirmed is earned: each step keeps, begins or ends what in the history the held time comes from.
-- Assumes nothing.
use Rattle.refusal.specs.declared.Refusal.{Refusal}
use Rattle.std.specs.Prelude.{Result, Ok, Err}
use Prim.Native.Nat.{ℕ, ◌+◌, ◌-◌, ◌*◌, ◌≤◌, ◌<◌}
use native.Mathlib.Omega.{arith}
use mathlib.Core.Path.{◌≡◌, refl, sym, ap, ◌∙◌}
use mathlib.Core.List.{List, []}
use borrow.Author.Tests.{eqb-false}
use lib.Dec.{eqb, leb}
use lib.ListN.{length}
use Rattle.block.specs.Read.{read_of}
use Rattle.record.specs.declared.Edition.{Edition}
use Rattle.record.specs.declared.Record.{Record}
use Rattle.timekeeping.specs.declared.Time.{Time}
use Rattle.timekeeping.specs.Times.{none, candidate, confirmed, time_of, no_time, usable_in, confirms, renewed_by, aged_by, offered_to}
use Rattle.timekeeping.proofs.Choices.{cond_elim}
use Rattle.timekeeping.proofs.WholeMinutes.{AfterMinutes, confirms_exactly}
use Rattle.locking.specs.declared.Judged.{Judged}
use Rattle.locking.specs.declared.Lock.{Lock}
use Rattle.locking.specs.Locks.{locked, lock_of}
use Rattle.locking.specs.Modes.{held_on}
use Rattle.locking.proofs.Choices.{held_elim, modes_elim}
use Rattle.receiver.specs.declared.State.{State}
use Rattle.receiver.specs.States.{lock_in, fresh_of, nothing_waits}
use Rattle.receiver.specs.Steps.{Step, step_of}
use Rattle.receiver.specs.History.{ran_all, fed_all, after, TimeBlock, LockedSince, HeldFrom, Held, Earned}
use Rattle.receiver.proofs.Choices.{filled, judges, step_elim, mode_of}
use Rattle.receiver.proofs.WholeHistory.{runs_after}
use Rattle.receiver.proofs.EndOfHistory.{◌▹◌, length_more, block_more, locked_now, locked_more, Waiting, block_now, each_state}
use Rattle.receiver.proofs.EarnedLock.{locked_since}

-- a locked state whose last block is used up
abbrev locked_with : ℕ → Time → State
locked_with bad t = nothing_waits (lock_of locked 0 bad t)

module _ (edition : Edition) where
  -- what a state's time comes from, where it holds one
  record Evidence (l : List ℕ) (s : State) : Type 0 where
    held : (s.time ≡ none → ⊥) → Held edition l s
    earned : s.time ≡ confirmed → Earned edition l s

  no_evidence : (l : List ℕ) (s : State) → s.time ≡ none → Evidence l s
  no_evidence l s e = record { held = λ h. absurd (h e); earned = λ c. absurd (omega arith) }

  held_locked_now : (l : List ℕ) (s : State) → Held edition l s → (after edition l).mode ≡ locked
  held_locked_now l s h = locked_now edition l h.unbroken (omega (arith, h.from.aged))

  module _ (l : List ℕ) (b : ℕ) (s : State) (v : Evidence l s) where
    -- ---- the time is kept for one bit more

    module _ (next : State) (kind : next.time ≡ s.time) (same : next.held ≡ s.held) (older : 50 * next.age + next.waiting ≡ 50 * s.age + s.waiting + 1)
        (room : next.waiting < 50) (now : (s.time ≡ none → ⊥) → (after edition (l ▹ b)).mode ≡ locked) where
      from_more : {n : ℕ} → HeldFrom edition l s n → HeldFrom edition (l ▹ b) next n
      from_more f = record { block = rw same (block_more l b f.block); aged = omega (arith, length_more l b, f.aged); room = room }

      held_more : (next.time ≡ none → ⊥) → Held edition (l ▹ b) next
      held_more h =
          let k = v.held (λ e. h (kind ∙ e)) in
          record { n = k.n; from = from_more k.from; unbroken = locked_more edition l b k.unbroken (now (λ e. h (kind ∙ e))) }

      earned_more : next.time ≡ confirmed → Earned edition (l ▹ b) next
      earned_more c =
          let k = v.earned (sym kind ∙ c) in
          record {
            n = k.n;
            minutes = k.minutes;
            from_one = k.from_one;
            to_four = k.to_four;
            earlier = k.earlier;
            block = block_more l b k.block;
            from = from_more k.from;
            later = rw same k.later;
            unbroken = locked_more edition l b k.unbroken (now (λ e. omega arith));
          }

      kept : Evidence (l ▹ b) next
      kept = record { held = held_more; earned = earned_more }

    -- ---- a block that began when locked and ends now is offered to the time

    module _ (bad : ℕ) (full : s.waiting ≡ 49) (since : LockedSince edition l (length l - s.waiting)) (now : (after edition (l ▹ b)).mode ≡ locked) where
      abbrev Offered : Time → Type 0
      Offered t = Evidence (l ▹ b) (locked_with bad t)

      -- a time begins with the block's record, confirmed only where the block was the right one
      module _ (k : ℕ) (r : Record) (block : TimeBlock edition (l ▹ b) (length (l ▹ b)) r)
          (earns : k ≡ confirmed → (s.time ≡ none → ⊥) × AfterMinutes edition (s.age + 1) s.held r) where
        from_now : {n : ℕ} → length (l ▹ b) ≡ n → HeldFrom edition (l ▹ b) (locked_with bad (time_of k r 0)) n
        from_now e = record { block = rw e at block; aged = omega arith; room = omega arith }

        earned_now : k ≡ confirmed → Earned edition (l ▹ b) (locked_with bad (time_of k r 0))
        earned_now c =
            let e = earns c in
            let h = v.held e.0 in
            let m = e.1 in
            record {
              n = h.n;
              minutes = m.minutes;
              from_one = m.from;
              to_four = m.to;
              earlier = s.held;
              block = block_more l b h.from.block;
              from = from_now (omega (arith, length_more l b, h.from.aged, m.whole));
              later = m.later;
              unbroken = locked_more edition l b h.unbroken now;
            }

        begun : Offered (time_of k r 0)
        begun =
            let start : length (l ▹ b) - 50 ≡ length l - s.waiting = omega (arith, length_more l b) in
            record {
              held = λ _. record { n = length (l ▹ b); from = from_now refl; unbroken = rw start (locked_more edition l b since now) };
              earned = earned_now;
            }

      renewed : (r : Record) → TimeBlock edition (l ▹ b) (length (l ▹ b)) r → Offered (renewed_by edition (lock_in s).time r)
      unfolding renewed_by
      renewed r block =
          let new : Offered (time_of candidate r 0) = begun candidate r block (λ c. absurd (omega arith)) in
          cond_elim (λ (k : ℕ). Offered (time_of k r 0)) (eqb s.time none) (λ _. new)
          (λ held.
          cond_elim (λ (k : ℕ). Offered (time_of k r 0)) (confirms edition (s.age + 1) s.held r)
          (λ e. begun confirmed r block (λ _. (eqb-false s.time none held, (confirms_exactly edition (s.age + 1) s.held r).0 e)))
          (λ _. new))

      older : Offered (aged_by (lock_in s).time)
      unfolding aged_by
      older =
          let nothing : Offered no_time = no_evidence _ _ refl in
          cond_elim Offered (eqb s.time none) (λ _. nothing)
          (λ _. cond_elim Offered (leb 120 (s.age + 1)) (λ _. nothing) (λ _. kept _ refl refl (omega arith) (omega arith) (λ _. now)))

      offered : (u : Result Record Refusal) → ((r : Record) → u ≡ Ok r → TimeBlock edition (l ▹ b) (length (l ▹ b)) r) → Offered (offered_to edition (lock_in s).time u)
      unfolding offered_to
      offered (Ok r) block = renewed r (block r refl)
      offered (Err why) block = older

  -- ---- every step

  module _ (l : List ℕ) (b : ℕ) (s : State) (p : Waiting l s) (v : Evidence l s) (here : after edition l ≡ s) where
    -- what a step leads to, where it is the one taken
    abbrev Evident : Step → Type 0
    Evident t = after edition (l ▹ b) ≡ t.next → Evidence (l ▹ b) t.next

    abbrev Judges : Judged → Type 0
    Judges j = Evident (judges (filled s b) j)

    held_evident : 49 ≤ s.waiting → LockedSince edition l (length l - s.waiting) → Judges (held_on edition s.bad (lock_in s).time (read_of (filled s b)))
    held_evident h since =
        let full : s.waiting ≡ 49 = omega arith in
        let blocks : (r : Record) → usable_in edition (read_of (filled s b)) ≡ Ok r → TimeBlock edition (l ▹ b) (length (l ▹ b)) r = λ r. block_now l b s p h in
        held_elim edition Judges s.bad _ (read_of (filled s b)) (λ e. offered l b s v 0 full since (mode_of e) _ blocks) (λ _. no_evidence _ _ refl)
        (λ _ e. offered l b s v (s.bad + 1) full since (mode_of e) _ blocks)

    evident : Evident (step_of edition s b)
    evident =
        step_elim edition Evident s b (λ few e. kept l b s v _ refl refl (omega arith) (omega arith) (λ h. mode_of e ∙ sym (mode_of here) ∙ held_locked_now l s (v.held h)))
        (λ full.
        modes_elim edition Judges (lock_in s) (read_of (filled s b)) (λ j f _. no_evidence _ _ (ap (λ (k : Lock). k.time.kind) f)) (λ _ _ _. no_evidence _ _ refl)
        (λ _ _ _. no_evidence _ _ refl) (λ _ _ _ _. no_evidence _ _ refl)
        (λ h t. held_evident full (rw here at (locked_since edition l (λ m. h (sym (mode_of here) ∙ m)) (λ m. t (sym (mode_of here) ∙ m))))))

  -- ---- every history

  evidence : (l : List ℕ) → Evidence l (after edition l)
  unfolding fresh_of
  evidence = each_state edition Evidence evident (no_evidence [] _ refl)

  -- a held time comes from a usable time block, as many whole blocks ago as its age, and lock was not lost since that block began
  pub held_is_read : (l : List ℕ) → ((after edition l).time ≡ none → ⊥) → Held edition l (after edition l)
  held_is_read l = (evidence l).held

  -- after any bits, a time is held only when locked
  pub held_is_locked : (l : List ℕ) → ((after edition l).time ≡ none → ⊥) → (after edition l).mode ≡ locked
  held_is_locked l h = held_locked_now l (after edition l) (held_is_read l h)

  -- whatever was fed, a confirmed time was earned
  pub confirmed_is_earned : (l : List ℕ) → (after edition l).time ≡ confirmed → Earned edition l (after edition l)
  confirmed_is_earned l = (evidence l).earned

  -- the same of the runs that were called, whatever they held and were refused with
  pub runs_earned : (runs : List (List ℕ)) → (ran_all edition fresh_of runs).time ≡ confirmed → Earned edition (fed_all runs) (ran_all edition fresh_of runs)
  runs_earned runs = rw (runs_after edition runs) (confirmed_is_earned (fed_all runs))
