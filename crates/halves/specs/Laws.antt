-- What holds of decided bits (02, No. 1).
-- Assumes nothing.
use Rattle.std.specs.Prelude.{Bool, true, false, cond, List, ◌≡◌, ℕ, ◌+◌, ◌-◌, ◌*◌, ◌/◌, ◌<◌, ◌≤◌, Float, ℤ, length, get_or, take}
use Rattle.std.specs.Bool.{beq}
use Rattle.std.specs.Float.{fin, binary32}
use Rattle.std.specs.Float.Ieee.{up, down, round, sub, eq, le}
use Rattle.halves.specs.Answer.{bits_under, plan_of}
use Rattle.halves.specs.Decision.{Decision, one, zero, unsure, magnitude, doubtful, decision_of, bits_of}
use Rattle.halves.specs.Pairs.{start_of, paired, opposite_under}
use Rattle.halves.specs.Readings.{degrees, in_range, all_in_range, is_margin}
use Rattle.halves.specs.declared.Pair.{Pair}
use Rattle.halves.specs.declared.Pairing.{Pairing}
use Rattle.halves.specs.declared.Pairing.TheVariants.{FromFirst, FromSecond}
use Rattle.halves.specs.declared.Polarity.{Polarity}
use Rattle.halves.specs.declared.Polarity.TheVariants.{AsItStands, Exchanged}

-- ---- when bits are given, and how many

abbrev pub other_pairing : Pairing → Pairing
other_pairing FromFirst = FromSecond
other_pairing FromSecond = FromFirst

-- every test passed: the pairing has more pairs of opposite sign than the other, and of n readings it leaves out none or one at either end
pub record Taken (readings : List Float) (margin : Float) (room : ℕ) (pairing : Pairing) (count : ℕ) : Type 0 where
  pub enough : 64 ≤ length readings
  pub inside : all_in_range readings ≡ true
  pub fair : is_margin margin ≡ true
  pub clear : opposite_under (other_pairing pairing) readings < opposite_under pairing readings
  pub many : count ≡ (length readings - start_of pairing) / 2
  pub fit : count ≤ room

pub record TakenWhere (readings : List Float) (margin : Float) (room : ℕ) (pairing : Pairing) (count : ℕ) : Type 0 where
  pub then : plan_of readings margin room ≡ bits_under pairing count → Taken readings margin room pairing count
  pub only : Taken readings margin room pairing count → plan_of readings margin room ≡ bits_under pairing count

abbrev pub TakenExactly : Type 0
TakenExactly = (readings : List Float) (margin : Float) (room : ℕ) (pairing : Pairing) (count : ℕ) → TakenWhere readings margin room pairing count

-- The two pairings are counted over 32 pairs and 31. So where every pair from the first reading on has opposite signs, as from a board that
-- begins with a bit, that pairing has more, whatever the signs between the pairs.
pub record Counted (readings : List Float) : Type 0 where
  pub pairs : (pairing : Pairing) → length (paired pairing (take 64 readings)) ≡ 32 - start_of pairing
  pub whole : opposite_under FromFirst readings ≡ 32 → opposite_under FromSecond readings < opposite_under FromFirst readings

abbrev pub PairsCounted : Type 0
PairsCounted = (readings : List Float) → 64 ≤ length readings → Counted readings

-- ---- one rounding

-- how far apart two numbers are, each given by its sign, true below zero, and its distance from zero
abbrev pub apart : Bool → ℕ → Bool → ℕ → ℕ
apart s a t b = cond (beq s t) (a - b + (b - a)) (a + b)

-- The number m * 2^e with the sign s and the number n * 2^d with the sign t, both over the denominator `down e * down d`: what is compared
-- with the margin is how far they are apart, exactly, rounded once.
abbrev pub RoundedOnce : Type 0
RoundedOnce =
    (s t : Bool) (m n : ℕ) (e d : ℤ)
    → magnitude (sub binary32 (fin s m e) (fin t n d)) ≡ round binary32 false (apart s (m * up e * down d) t (n * up d * down e)) (down e * down d)

-- ---- what changes a bit

-- what stands behind the last pair
abbrev pub no_pair : Pair
no_pair = record { first = degrees 0; second = degrees 0 }

-- at each place the other polarity leaves a doubtful bit 0 and exchanges every other
pub record Exchanges (margin : Float) (ps : List Pair) (k : ℕ) : Type 0 where
  pub stays : doubtful margin (get_or ps k no_pair) ≡ true → (polarity : Polarity) → get_or (bits_of polarity margin ps) k 0 ≡ 0
  pub turns : doubtful margin (get_or ps k no_pair) ≡ false → get_or (bits_of AsItStands margin ps) k 0 + get_or (bits_of Exchanged margin ps) k 0 ≡ 1

abbrev pub PolarityExchanges : Type 0
PolarityExchanges = (margin : Float) (ps : List Pair) (k : ℕ) → k < length ps → Exchanges margin ps k

-- a pair with its halves exchanged, and what it says then
abbrev pub turned : Pair → Pair
turned p = record { first = p.second; second = p.first }

abbrev pub other : Decision → Decision
other one = zero
other zero = one
other unsure = unsure

abbrev pub HalvesExchange : Type 0
HalvesExchange = (margin : Float) (p : Pair) → in_range p.first ≡ true → in_range p.second ≡ true → decision_of margin (turned p) ≡ other (decision_of margin p)

-- a margin of 0, of either sign, leaves only equal halves doubtful
abbrev pub OnlyEqualDoubtful : Type 0
OnlyEqualDoubtful = (margin : Float) (p : Pair) → eq margin (degrees 0) ≡ true → doubtful margin p ≡ eq p.first p.second

-- a larger margin makes no doubtful bit certain
abbrev pub DoubtGrows : Type 0
DoubtGrows = (margin larger : Float) (p : Pair) → le margin larger ≡ true → doubtful margin p ≡ true → doubtful larger p ≡ true
