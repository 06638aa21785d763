-- How long ago the block of the held record ended: with each bit one more, unless a block makes a new record with it.
-- Assumes nothing.
use Rattle.refusal.specs.declared.Refusal.{Refusal}
use Rattle.record.specs.declared.Record.{Record}
use Rattle.block.specs.declared.Refused.{Refused}
use Rattle.block.specs.declared.Body.{Body}
use Rattle.std.specs.Prelude.{Result, Ok, Err}
use Prim.Native.Nat.{ℕ, ◌+◌, ◌≤◌, ◌<◌}
use native.Mathlib.Omega.{arith}
use mathlib.Core.Path.{◌≡◌, refl, ◌∙◌}
use mathlib.Core.Bool.{true}
use mathlib.Core.List.{List, [], ◌∷◌}
use mathlib.Core.Logic.{◌⊎◌, inl, inr, ⊎_elim}
use lib.Dec.{eqb, leb}
use lib.ListN.{length}
use Rattle.block.specs.Bits.{zeros}
use Rattle.block.specs.Read.{read_of}
use Rattle.block.proofs.Strings.{not_true}
use Rattle.record.specs.declared.Edition.{Edition}
use Rattle.timekeeping.specs.declared.Time.{Time}
use Rattle.timekeeping.specs.Times.{none, usable_in, renewed_by, aged_by, offered_to}
use Rattle.timekeeping.proofs.Choices.{cond_elim}
use Rattle.locking.specs.declared.Judged.{Judged}
use Rattle.locking.specs.Locks.{locked, lock_of}
use Rattle.locking.proofs.Choices.{modes_elim, held_elim}
use Rattle.receiver.specs.declared.State.{State}
use Rattle.receiver.specs.States.{state_of, lock_in}
use Rattle.receiver.specs.Steps.{Step, step_of}
use Rattle.receiver.specs.History.{after_from}
use Rattle.receiver.specs.Packed.{packed}
use Rattle.receiver.proofs.Choices.{filled, judges, step_elim}
use Rattle.receiver.proofs.Room.{step_room}
use Rattle.watch.specs.Watches.{is_held, since}

-- a record that is held after a block was offered came with it, or it is the one held before, a block older
abbrev Offered : Time → Time → Type 0
Offered before after = is_held after.kind ≡ true → (after.age ≡ 0) ⊎ ((after.age ≡ before.age + 1) × (after.kind ≡ before.kind))

offered_held : (edition : Edition) (t : Time) (r : Result Record Refusal) → Offered t (offered_to edition t r)
unfolding offered_to renewed_by aged_by
offered_held edition t (Ok r) = λ _. inl refl
offered_held edition t (Err why) =
    cond_elim (Offered t) (eqb t.kind none) (λ _ h. absurd (not_true h)) (λ _. cond_elim (Offered t) (leb 120 (t.age + 1)) (λ _ h. absurd (not_true h)) (λ _ _. inr (refl, refl)))

-- so it is with one bit
abbrev pub Older : State → State → Type 0
Older s t = is_held t.time ≡ true → (since (packed t) ≡ 0) ⊎ ((since (packed t) ≡ since (packed s) + 1) × (t.time ≡ s.time))

module _ (edition : Edition) where
  -- the block that the bit fills is offered, and nothing waits behind it
  offered_next : (s : State) (bad : ℕ) (bits : List ℕ) (r : Result Record Refusal) → s.waiting + 1 ≡ 50 → Older s (state_of (lock_of locked 0 bad (offered_to edition (lock_in s).time r)) 0 bits)
  offered_next s bad bits r full h =
      ⊎_elim (λ z. inl (omega arith)) (λ o. inr (omega (arith, o.0), o.1)) (offered_held edition (lock_in s).time r h)

  pub step_held : (s : State) (b : ℕ) → s.waiting < 50 → Older s (step_of edition s b).next
  step_held s b room =
      step_elim edition (λ (t : Step). Older s t.next) s b (λ _ _. inr (omega arith, refl))
      (λ full.
      let w : Result Body Refused = read_of (filled s b) in
      let P : Judged → Type 0 = λ j. Older s (judges (filled s b) j).next in
      let last : s.waiting + 1 ≡ 50 = omega arith in
      modes_elim edition P (lock_in s) w (λ j e h. absurd (not_true (rw e at h))) (λ _ _ h. absurd (not_true h)) (λ _ _ h. absurd (not_true h)) (λ _ _ _ h. absurd (not_true h))
      (λ _ _. held_elim edition P s.bad (lock_in s).time w (offered_next s 0 (zeros 50) (usable_in edition w) last) (λ h. absurd (not_true h)) (λ _. offered_next s (s.bad + 1) (zeros 50) (usable_in edition w) last)))

  -- and with many, where its block did not end among them
  pub after_held : (s : State) (bs : List ℕ) → s.waiting < 50 → is_held (after_from edition s bs).time ≡ true → length bs ≤ since (packed (after_from edition s bs))
      → (since (packed (after_from edition s bs)) ≡ since (packed s) + length bs) × ((after_from edition s bs).time ≡ s.time)
  unfolding after_from
  after_held s [] room h k = (omega arith, refl)
  after_held s (b ∷ bs) room h k =
      let t : State = (step_of edition s b).next in
      let on = after_held t bs (step_room edition s b) h (omega arith) in
      ⊎_elim (λ z. absurd (omega (arith, on.0))) (λ o. (omega (arith, on.0), on.1 ∙ o.1)) (step_held s b room (rw (← on.1) h))
