-- Bits are given exactly where every test passes.
-- Assumes nothing.
use borrow.Author.Tests.{le-ltb, ltb-true, ltb-false}
use mathlib.Core.Bool.{Bool, true, false, cond, ◌&&◌}
use mathlib.Core.List.{List}
use mathlib.Core.Path.{◌≡◌, refl, sym, ap, ◌∙◌, subst}
use Prim.Native.Nat.{ℕ, ◌-◌, ◌/◌, ◌<◌, ◌≤◌}
use native.Mathlib.Omega.{arith}
use lib.Dec.{ltb}
use lib.Ieee.{Float}
use lib.ListN.{length}
use Rattle.std.specs.Prelude.{Result, Ok, Err}
use Rattle.refusal.specs.declared.Refusal.{Refusal}
use Rattle.refusal.specs.declared.Refusal.TheVariants.{TooFewReadings, OutOfDegrees, EqualPairings, NoRoom}
use Rattle.halves.specs.Answer.{bits_under, room_for, chosen_of, plan_of}
use Rattle.halves.specs.Laws.{other_pairing, Taken, TakenExactly}
use Rattle.halves.specs.Pairs.{start_of, paired, opposite_under}
use Rattle.halves.specs.Readings.{all_in_range, is_margin}
use Rattle.halves.specs.declared.Decided.{Decided}
use Rattle.halves.specs.declared.Pairing.{Pairing}
use Rattle.halves.specs.declared.Pairing.TheVariants.{FromFirst, FromSecond}
use Rattle.halves.proofs.Choosing.{paired_length, more_from_first, more_from_second}

-- an answer gives these bits
abbrev Gives : Result Decided Refusal → Pairing → ℕ → Type 0
Gives (Ok d) pairing count = (d.pairing ≡ pairing) × (d.count ≡ count)
Gives (Err why) pairing count = ⊥

module _ (readings : List Float) (margin : Float) (room : ℕ) (pairing : Pairing) (count : ℕ) where
  room_gives : (p : Pairing) → Gives (room_for room p (length (paired p readings))) pairing count → (p ≡ pairing) × (count ≡ (length readings - start_of pairing) / 2) × (count ≤ room)
  unfolding room_for
  room_gives p = go (ltb room (length (paired p readings))) refl
    where
      go : (t : Bool) → ltb room (length (paired p readings)) ≡ t → Gives (cond t (Err NoRoom) (bits_under p (length (paired p readings)))) pairing count
          → (p ≡ pairing) × (count ≡ (length readings - start_of pairing) / 2) × (count ≤ room)
      go true h g = absurd g
      go false h g =
          (g.0, sym g.1 ∙ paired_length p readings ∙ ap (λ (k : Pairing). (length readings - start_of k) / 2) g.0, omega (arith, g.1, ltb-false room (length (paired p readings)) h))

  -- the first two tests passed
  module _ (enough : 64 ≤ length readings) (inside : all_in_range readings ≡ true) (fair : is_margin margin ≡ true) where
    under : (p : Pairing) → opposite_under (other_pairing p) readings < opposite_under p readings → Gives (room_for room p (length (paired p readings))) pairing count
        → Taken readings margin room pairing count
    under p l g =
        let found = room_gives p g in
        record { enough = enough; inside = inside; fair = fair; clear = rw (← found.0) l; many = found.1; fit = found.2 }

    choice_gives : Gives (chosen_of readings room) pairing count → Taken readings margin room pairing count
    unfolding chosen_of
    choice_gives = go (ltb second first) refl (ltb first second) refl
      where
        first : ℕ
        first = opposite_under FromFirst readings

        second : ℕ
        second = opposite_under FromSecond readings

        go : (t : Bool) → ltb second first ≡ t → (u : Bool) → ltb first second ≡ u
            → Gives (cond t (room_for room FromFirst (length (paired FromFirst readings))) (cond u (room_for room FromSecond (length (paired FromSecond readings))) (Err EqualPairings))) pairing count
            → Taken readings margin room pairing count
        go true h u k g = under FromFirst (ltb-true second first h) g
        go false h true k g = under FromSecond (ltb-true first second k) g
        go false h false k g = absurd g

  plan_gives : Gives (plan_of readings margin room) pairing count → Taken readings margin room pairing count
  unfolding plan_of
  plan_gives = go (ltb (length readings) 64) refl (all_in_range readings) refl (is_margin margin) refl
    where
      go : (a : Bool) → ltb (length readings) 64 ≡ a → (b : Bool) → all_in_range readings ≡ b → (d : Bool) → is_margin margin ≡ d
          → Gives (cond a (Err TooFewReadings) (cond (b && d) (chosen_of readings room) (Err OutOfDegrees))) pairing count → Taken readings margin room pairing count
      go true h b i d m g = absurd g
      go false h true i true m g = choice_gives (ltb-false (length readings) 64 h) i m g
      go false h true i false m g = absurd g
      go false h false i d m g = absurd g

-- there is room for as many bits as the pairing gives
fits : (room : ℕ) (pairing : Pairing) (n count : ℕ) → count ≡ n → count ≤ room → room_for room pairing n ≡ bits_under pairing count
unfolding room_for
fits room pairing n count e h = rw (le-ltb room n (omega arith), e)

chosen : (readings : List Float) (margin : Float) (room : ℕ) (pairing : Pairing) (count : ℕ) → Taken readings margin room pairing count → chosen_of readings room ≡ bits_under pairing count
chosen readings margin room FromFirst count t = more_from_first readings room t.clear ∙ fits room FromFirst (length readings / 2) count (omega (arith, t.many)) t.fit
chosen readings margin room FromSecond count t = more_from_second readings room t.clear ∙ fits room FromSecond ((length readings - 1) / 2) count t.many t.fit

planned : (readings : List Float) (margin : Float) (room : ℕ) (pairing : Pairing) (count : ℕ) → Taken readings margin room pairing count → plan_of readings margin room ≡ bits_under pairing count
unfolding plan_of
planned readings margin room pairing count t =
    rw (le-ltb (length readings) 64 t.enough, t.inside, t.fair) (chosen readings margin room pairing count t)

pub taken_exactly : TakenExactly
taken_exactly readings margin room pairing count =
    record {
      then = λ e. plan_gives readings margin room pairing count (subst (λ (d : Result Decided Refusal). Gives d pairing count) (sym e) (refl, refl));
      only = planned readings margin room pairing count;
    }
