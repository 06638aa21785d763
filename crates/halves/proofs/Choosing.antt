-- The pairing is chosen by which of two counts is greater.
-- Assumes nothing.
use borrow.Author.Tests.{lt-ltb, le-ltb}
use mathlib.Core.List.{List, [], ◌∷◌}
use mathlib.Core.Path.{◌≡◌, refl, ap, ◌∙◌}
use Prim.Native.Nat.{ℕ, ◌/◌, ◌-◌, ◌<◌, ◌≤◌}
use native.Mathlib.Omega.{arith}
use lib.Ieee.{Float}
use lib.ListN.{length, take, drop, length-drop}
use lib.Seq.{length-take-le}
use Rattle.std.specs.Prelude.{Err}
use Rattle.std.proofs.lemmas.List.Sums.{count_by-le-length}
use Rattle.refusal.specs.declared.Refusal.TheVariants.{EqualPairings}
use Rattle.halves.specs.Answer.{room_for, chosen_of}
use Rattle.halves.specs.Laws.{PairsCounted}
use Rattle.halves.specs.Pairs.{opposite, count_opposite, start_of, paired, opposite_under}
use Rattle.halves.specs.declared.Pairing.{Pairing}
use Rattle.halves.specs.declared.Pairing.TheVariants.{FromFirst, FromSecond}
use Rattle.halves.proofs.TwoByTwo.{pairs_length}

-- how many bits a pairing gives
pub paired_length : (pairing : Pairing) (readings : List Float) → length (paired pairing readings) ≡ (length readings - start_of pairing) / 2
paired_length pairing readings = pairs_length (drop (start_of pairing) readings) ∙ ap (λ (n : ℕ). n / 2) (length-drop (start_of pairing) readings)

halved : (pairing : Pairing) {n : ℕ} → n ≡ 64 → (n - start_of pairing) / 2 ≡ 32 - start_of pairing
halved FromFirst e = omega arith
halved FromSecond e = omega arith

pub pairs_counted : PairsCounted
unfolding count_opposite
pairs_counted readings enough =
    let all = length-take-le 64 readings enough in
    let many : (pairing : Pairing) → length (paired pairing (take 64 readings)) ≡ 32 - start_of pairing
    = λ pairing. paired_length pairing (take 64 readings) ∙ halved pairing all in
    record { pairs = many; whole = λ each. omega (arith, count_by-le-length opposite (paired FromSecond (take 64 readings)), many FromSecond) }

-- the first reading left out, before or after the others are
pub without_first : (readings : List Float) → take 63 (drop 1 readings) ≡ drop 1 (take 64 readings)
without_first [] = refl
without_first (x ∷ readings) = refl

module _ (readings : List Float) (room : ℕ) where
  pub more_from_first : opposite_under FromSecond readings < opposite_under FromFirst readings → chosen_of readings room ≡ room_for room FromFirst (length readings / 2)
  unfolding chosen_of
  more_from_first h = rw (lt-ltb (opposite_under FromSecond readings) (opposite_under FromFirst readings) h) (ap (room_for room FromFirst) (pairs_length readings))

  pub more_from_second : opposite_under FromFirst readings < opposite_under FromSecond readings → chosen_of readings room ≡ room_for room FromSecond ((length readings - 1) / 2)
  unfolding chosen_of
  more_from_second h =
      rw (le-ltb (opposite_under FromSecond readings) (opposite_under FromFirst readings) (omega arith), lt-ltb (opposite_under FromFirst readings) (opposite_under FromSecond readings) h)
      (ap (room_for room FromSecond) (paired_length FromSecond readings))

  pub as_many : opposite_under FromFirst readings ≤ opposite_under FromSecond readings → opposite_under FromSecond readings ≤ opposite_under FromFirst readings → chosen_of readings room ≡ Err EqualPairings
  unfolding chosen_of
  as_many h k = rw (le-ltb (opposite_under FromSecond readings) (opposite_under FromFirst readings) h, le-ltb (opposite_under FromFirst readings) (opposite_under FromSecond readings) k)
