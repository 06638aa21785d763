-- The answer, with the refusals in their order, and what the lent slice holds then (02, No. 1).
-- Assumes nothing.
use Rattle.std.specs.Prelude.{cond, ◌&&◌, List, ◌++◌, ℕ, ltb, Float, Result, Ok, Err, length, drop}
use Rattle.refusal.specs.Numbers.{number_of}
use Rattle.refusal.specs.declared.Refusal.{Refusal}
use Rattle.refusal.specs.declared.Refusal.TheVariants.{TooFewReadings, OutOfDegrees, EqualPairings, NoRoom}
use Rattle.halves.specs.Decision.{bits_of}
use Rattle.halves.specs.Pairs.{start_of, paired, opposite_under}
use Rattle.halves.specs.Readings.{all_in_range, is_margin}
use Rattle.halves.specs.declared.Decided.{Decided}
use Rattle.halves.specs.declared.Pairing.{Pairing}
use Rattle.halves.specs.declared.Pairing.TheVariants.{FromFirst, FromSecond}
use Rattle.halves.specs.declared.Polarity.{Polarity}

-- a pairing and the number of its bits
abbrev pub bits_under : Pairing → ℕ → Result Decided Refusal
bits_under pairing count = Ok (record { pairing = pairing; count = count })

-- so many bits need as many places: else 31
unfoldable pub room_for : ℕ → Pairing → ℕ → Result Decided Refusal
room_for room pairing count = cond (ltb room count) (Err NoRoom) (bits_under pairing count)

-- the pairing with more pairs of opposite sign is taken; with equal counts 13
unfoldable pub chosen_of : List Float → ℕ → Result Decided Refusal
chosen_of readings room =
    cond (ltb (opposite_under FromSecond readings) (opposite_under FromFirst readings)) (room_for room FromFirst (length (paired FromFirst readings)))
    (cond (ltb (opposite_under FromFirst readings) (opposite_under FromSecond readings)) (room_for room FromSecond (length (paired FromSecond readings))) (Err EqualPairings))

-- 11 for fewer than 64 readings, then 12 for a reading or a margin out of range
unfoldable pub plan_of : List Float → Float → ℕ → Result Decided Refusal
plan_of readings margin room =
    cond (ltb (length readings) 64) (Err TooFewReadings) (cond (all_in_range readings && is_margin margin) (chosen_of readings room) (Err OutOfDegrees))

-- the bits to the front, behind them what was there; a refusal writes nothing
abbrev pub written_by : Result Decided Refusal → List Float → Float → Polarity → List ℕ → List ℕ
written_by (Ok decided) readings margin polarity held = bits_of polarity margin (paired decided.pairing readings) ++ drop decided.count held
written_by (Err why) readings margin polarity held = held

unfoldable pub written_of : List Float → Float → Polarity → List ℕ → List ℕ
written_of readings margin polarity held = written_by (plan_of readings margin (length held)) readings margin polarity held

-- an answer as the paper's numbers: the refusal, 0 where there is none; the pairing and the number of bits, zeros where refused
abbrev pub refusal_in : Result Decided Refusal → ℕ
refusal_in (Ok decided) = 0
refusal_in (Err why) = number_of why

abbrev pub pairing_in : Result Decided Refusal → ℕ
pairing_in (Ok decided) = start_of decided.pairing
pairing_in (Err why) = 0

abbrev pub count_in : Result Decided Refusal → ℕ
count_in (Ok decided) = decided.count
count_in (Err why) = 0
