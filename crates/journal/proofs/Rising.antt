-- Entries in order, said from entry to entry: each has at least a certain bit number, and the next at least one more.
-- Assumes nothing.
use borrow.Author.Tests.{le-leb, leb-true, lt-ltb, ltb-true}
use mathlib.Core.Bool.{Bool, true, false, cond}
use mathlib.Core.List.{List, [], ◌∷◌}
use mathlib.Core.Path.{◌≡◌, refl}
use Rattle.std.proofs.Common.{Ok, Err}
use Prim.Native.Nat.{ℕ, zero, suc, ◌+◌, ◌^◌, ◌≤◌, ◌<◌}
use native.Mathlib.Omega.{arith}
use lib.Dec.{leb}
use lib.ListN.{length, get_or}
use Rattle.refusal.specs.declared.Refusal.TheVariants.{NumberTooWide, NotRising}
use Rattle.block.specs.Packed.{fits}
use Rattle.journal.specs.Laws.{SoundMeansInOrder, SaysInOrder}
use Rattle.journal.specs.Order.{InOrder, verdict_from}
use Rattle.journal.specs.declared.Entry.{Entry}
use Rattle.journal.proofs.Saying.{as_said}

abbrev pub Rises : ℕ → List Entry → Type 0
Rises least [] = Unit {0}
Rises least (e ∷ es) = (least ≤ e.bit) × (e.block < 2 ^ 50) × Rises (e.bit + 1) es

abbrev at : List Entry → ℕ → Entry
at es i = get_or es i (record { bit = 0; block = 0 })

-- ---- from entry to entry, and the whole list

not_below : (least : ℕ) (es : List Entry) → Rises least es → (i : ℕ) → i < length es → least ≤ (at es i).bit
not_below least [] r i h = absurd (omega arith)
not_below least (e ∷ es) r zero h = r.0
not_below least (e ∷ es) r (suc i) h = omega (arith, r.0, not_below (e.bit + 1) es r.2 i (omega arith))

rises_rising : (least : ℕ) (es : List Entry) → Rises least es → (i j : ℕ) → i < j → j < length es → (at es i).bit < (at es j).bit
rises_rising least [] r i j h k = absurd (omega arith)
rises_rising least (e ∷ es) r i zero h k = absurd (omega arith)
rises_rising least (e ∷ es) r zero (suc j) h k = omega (arith, not_below (e.bit + 1) es r.2 j (omega arith))
rises_rising least (e ∷ es) r (suc i) (suc j) h k = rises_rising (e.bit + 1) es r.2 i j (omega arith) (omega arith)

rises_allowed : (least : ℕ) (es : List Entry) → Rises least es → (i : ℕ) → i < length es → (at es i).block < 2 ^ 50
rises_allowed least [] r i h = absurd (omega arith)
rises_allowed least (e ∷ es) r zero h = r.1
rises_allowed least (e ∷ es) r (suc i) h = rises_allowed (e.bit + 1) es r.2 i (omega arith)

pub rises_in_order : (least : ℕ) (es : List Entry) → Rises least es → InOrder es
rises_in_order least es r = record { rising = rises_rising least es r; allowed = rises_allowed least es r }

in_order_from : (least : ℕ) (es : List Entry) → InOrder es → ((i : ℕ) → i < length es → least ≤ (at es i).bit) → Rises least es
in_order_from least [] o f = tt
in_order_from least (e ∷ es) o f =
    let rest : InOrder es =
    record {
      rising = λ i j h k. o.rising (suc i) (suc j) (omega arith) (omega arith);
      allowed = λ i h. o.allowed (suc i) (omega arith);
    } in
    (f 0 (omega arith), o.allowed 0 (omega arith), in_order_from (e.bit + 1) es rest (λ i h. omega (arith, o.rising 0 (suc i) (omega arith) (omega arith))))

pub in_order_rises : (es : List Entry) → InOrder es → Rises 0 es
in_order_rises es o = in_order_from 0 es o (λ i h. omega arith)

-- ---- the verdict

sound_rises : (least : ℕ) (es : List Entry) → verdict_from least es ≡ Ok tt → Rises least es
unfolding verdict_from
sound_rises least [] v = tt
sound_rises least (e ∷ es) v = go (leb least e.bit) refl (fits e.block) refl (sound_rises (e.bit + 1) es) v
  where
    go : (a : Bool) → leb least e.bit ≡ a → (b : Bool) → fits e.block ≡ b → (verdict_from (e.bit + 1) es ≡ Ok tt → Rises (e.bit + 1) es)
        → cond a (cond b (verdict_from (e.bit + 1) es) (Err NumberTooWide)) (Err NotRising) ≡ Ok tt → Rises least (e ∷ es)
    go true p true q rest w = (leb-true least e.bit p, ltb-true e.block (2 ^ 50) q, rest w)
    go true p false q rest w = cc
    go false p b q rest w = cc

rises_sound : (least : ℕ) (es : List Entry) → Rises least es → verdict_from least es ≡ Ok tt
unfolding verdict_from
rises_sound least [] r = refl
rises_sound least (e ∷ es) r = rw (le-leb least e.bit r.0, lt-ltb e.block (2 ^ 50) r.1) (rises_sound (e.bit + 1) es r.2)

pub sound_means_in_order : SoundMeansInOrder
sound_means_in_order es =
    record { then = λ v. rises_in_order 0 es (sound_rises 0 es v); only = λ o. rises_sound 0 es (in_order_rises es o) }

pub says_in_order : SaysInOrder
says_in_order s es e = (sound_means_in_order es).then (as_said s es e).sound
