-- What waits is the end of the history, so the window that a bit fills is that of its last fifty bits; what the history held
-- before a bit it holds after it; and what each step keeps holds after every history.
-- Assumes nothing.
use Rattle.block.specs.declared.Refused.{Refused}
use Rattle.block.specs.declared.Body.{Body}
use Rattle.std.specs.Prelude.{Result}
use Prim.Native.Nat.{ℕ, ◌+◌, ◌-◌, ◌≤◌, ◌<◌}
use native.Mathlib.Omega.{arith}
use native.Mathlib.Numerals.{add-one}
use mathlib.Core.Path.{◌≡◌, refl, sym, ap, ◌∙◌}
use mathlib.Core.List.{List, [], ◌∷◌, ◌++◌, append_assoc, append-nil}
use mathlib.Core.Logic.{⊎_elim}
use lib.ListN.{length, take, drop, length-append, length-drop, take-append-drop}
use lib.Seq.{append_snoc, take_all, take-length, take-append-le, drop-append-le, take-suc-set, take_at, drop_at}
use Rattle.block.specs.Read.{read_of}
use Rattle.record.specs.declared.Edition.{Edition}
use Rattle.record.proofs.Tests.{le_or_lt}
use Rattle.locking.specs.declared.Judged.{Judged}
use Rattle.locking.specs.Locks.{locked}
use Rattle.locking.proofs.Choices.{judged_elim}
use Rattle.receiver.specs.declared.State.{State}
use Rattle.receiver.specs.States.{lock_in, fresh_of}
use Rattle.receiver.specs.Steps.{Step, waiting_after, bits_after, step_of}
use Rattle.receiver.specs.History.{after_from, after, after_first, window_to, BlockTo, JudgedInPlace, LockedSince}
use Rattle.receiver.proofs.Choices.{filled, step_elim}
use Rattle.receiver.proofs.WholeHistory.{after_append}
use Rattle.receiver.proofs.Room.{step_room, filled_places, step_places}

-- a history and then one bit more
infixl 20 ◌▹◌
abbrev pub ◌▹◌ : List ℕ → ℕ → List ℕ
l ▹ b = l ++ b ∷ []

-- what holds before any bit, and with each bit of what held before it, holds of every history
module _ (P : List ℕ → Type 0) (more : (l : List ℕ) (b : ℕ) → P l → P (l ▹ b)) where
  goes_on : (l rest : List ℕ) → P l → P (l ++ rest)
  goes_on l [] p = rw append-nil p
  goes_on l (b ∷ rest) p = rw (← append_snoc l b rest) (goes_on (l ▹ b) rest (more l b p))

  each_history : P [] → (l : List ℕ) → P l
  each_history start l = goes_on [] l start

-- the history ends with the first of these bits, as many as wait
abbrev pub Ends : List ℕ → ℕ → List ℕ → Type 0
Ends l waiting bits = (before : List ℕ) × (l ≡ before ++ take waiting bits)

pub record Waiting (l : List ℕ) (s : State) : Type 0 where
  pub places : length s.bits ≡ 50
  pub room : s.waiting < 50
  pub ends : Ends l s.waiting s.bits

-- the oldest of fifty bits is passed over
ends_on : (before w : List ℕ) → length w ≡ 50 → Ends (before ++ w) 49 (drop 1 w ++ 0 ∷ [])
ends_on before w h =
    (before ++ take 1 w, rw (take_at (drop 1 w) (0 ∷ []) 49 (omega (arith, length-drop 1 w)), append_assoc, take-append-drop))

module _ (l : List ℕ) (b : ℕ) where
  pub length_more : length (l ▹ b) ≡ length l + 1
  length_more = length-append l (b ∷ [])

  window_more : (n : ℕ) → 50 ≤ n → n ≤ length l → window_to n (l ▹ b) ≡ window_to n l
  window_more n h k =
      ap (take 50) (drop-append-le (n - 50) l (b ∷ []) (omega arith))
      ∙ take-append-le 50 (drop (n - 50) l) (b ∷ []) (omega (arith, length-drop (n - 50) l))

  pub block_more : {asked : Result Body Refused → Type 0} {n : ℕ} → BlockTo asked l n → BlockTo asked (l ▹ b) n
  block_more {n = n} t = record { from = t.from; to = omega (arith, length_more); reads = rw (window_more n t.from t.to) t.reads }

  module _ (s : State) (p : Waiting l s) where
    places_more : length (filled s b) ≡ 50
    places_more = filled_places s b p.places

    ends_more : l ▹ b ≡ p.ends.0 ++ take (s.waiting + 1) (filled s b)
    ends_more =
        rw (add-one s.waiting, take-suc-set s.bits s.waiting b (omega arith), ← append_assoc) (ap (λ (k : List ℕ). k ▹ b) p.ends.1)

    -- the full window ends now
    module _ (h : 49 ≤ s.waiting) where
      ends_full : l ▹ b ≡ p.ends.0 ++ filled s b
      ends_full = ends_more ∙ ap (λ (k : List ℕ). p.ends.0 ++ k) (take_all (s.waiting + 1) (filled s b) (omega (arith, places_more)))

      length_full : length (l ▹ b) ≡ length p.ends.0 + 50
      length_full = ap length ends_full ∙ omega (arith, length-append p.ends.0 (filled s b), places_more)

      pub window_now : window_to (length (l ▹ b)) (l ▹ b) ≡ filled s b
      window_now =
          ap (λ (k : List ℕ). take 50 (drop (length (l ▹ b) - 50) k)) ends_full
          ∙ ap (take 50) (drop_at p.ends.0 (filled s b) (length (l ▹ b) - 50) (omega (arith, length_full)))
          ∙ take_all 50 (filled s b) (omega (arith, places_more))

      pub block_now : {asked : Result Body Refused → Type 0} → asked (read_of (filled s b)) → BlockTo asked (l ▹ b) (length (l ▹ b))
      block_now e = record { from = omega (arith, length_full); to = omega arith; reads = rw window_now e }

module _ (edition : Edition) where
  pub after_more : (l : List ℕ) (b : ℕ) → after edition (l ▹ b) ≡ (step_of edition (after edition l) b).next
  unfolding after_from
  after_more l b = after_append edition fresh_of l (b ∷ [])

  pub locked_now : (l : List ℕ) {n : ℕ} → LockedSince edition l n → n ≤ length l → (after edition l).mode ≡ locked
  locked_now l since h = rw take-length at (since (length l) h (omega arith))

  module _ (l : List ℕ) (b : ℕ) where
    pub first_more : (n : ℕ) → n ≤ length l → after_first edition n (l ▹ b) ≡ after_first edition n l
    first_more n h = ap (after edition) (take-append-le n l (b ∷ []) h)

    pub judged_more : (n : ℕ) → 50 ≤ n → n ≤ length l → JudgedInPlace edition l n → JudgedInPlace edition (l ▹ b) n
    judged_more n h k j = rw (first_more n k, first_more (n - 50) (omega arith), window_more l b n h k) j

    pub locked_more : {n : ℕ} → LockedSince edition l n → (after edition (l ▹ b)).mode ≡ locked → LockedSince edition (l ▹ b) n
    locked_more since now m from to =
        ⊎_elim (λ h. rw (first_more m h) (since m from h))
        (λ h. rw (take_all m (l ▹ b) (omega (arith, length_more l b))) now) (le_or_lt m (length l))

    module _ (s : State) (p : Waiting l s) where
      step_ends : Ends (l ▹ b) (step_of edition s b).next.waiting (step_of edition s b).next.bits
      step_ends =
          let used : Ends (l ▹ b) 0 [] = (l ▹ b, sym (append-nil (l ▹ b))) in
          step_elim edition (λ (t : Step). Ends (l ▹ b) t.next.waiting t.next.bits) s b (λ _. (p.ends.0, ends_more l b s p))
          (λ h.
          judged_elim edition (λ (j : Judged). Ends (l ▹ b) (waiting_after j) (bits_after j (filled s b))) (lock_in s) (read_of (filled s b)) (λ _. used) (λ _. used)
          (rw (ends_full l b s p h) (ends_on p.ends.0 (filled s b) (places_more l b s p))))

      waiting_more : Waiting (l ▹ b) (step_of edition s b).next
      waiting_more = record { places = step_places edition s b p.places; room = step_room edition s b; ends = step_ends }

  -- so it is after every history
  waiting_after_lem : (l : List ℕ) → Waiting l (after edition l)
  unfolding after_from fresh_of
  waiting_after_lem =
      each_history (λ (l : List ℕ). Waiting l (after edition l)) (λ l b p. rw (after_more l b) (waiting_more l b (after edition l) p))
      (record { places = refl; room = omega arith; ends = ([], refl) })

  -- what holds of the fresh state, and of each step that is taken, holds after every history
  pub each_state : (P : List ℕ → State → Type 0)
      → ((l : List ℕ) (b : ℕ) (s : State) → Waiting l s → P l s → after edition l ≡ s → after edition (l ▹ b) ≡ (step_of edition s b).next → P (l ▹ b) (step_of edition s b).next)
      → P [] fresh_of → (l : List ℕ) → P l (after edition l)
  unfolding after_from
  each_state P more =
      each_history (λ (l : List ℕ). P l (after edition l)) (λ l b p. rw (after_more l b) (more l b (after edition l) (waiting_after_lem l) p refl (after_more l b)))
