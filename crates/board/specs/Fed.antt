-- What the radio board's call decides is fed as before: the statement that joins `lw_decide` and `lw_run` (02, No. 1). The definitions joined here
-- are those that the contracts of the two calls cite.
-- Assumes nothing.
use Rattle.std.specs.Prelude.{true, List, ◌≡◌, ℕ, ◌+◌, ◌*◌, ◌≤◌, Float, Ok, length, take, drop}
use Rattle.refusal.specs.Numbers.{number_of}
use Rattle.refusal.specs.declared.Refusal.TheVariants.{NotABit}
use Rattle.block.specs.Bits.{Bits}
use Rattle.record.specs.Editions.{edition_of}
use Rattle.record.specs.declared.Edition.{Edition}
use Rattle.halves.specs.Answer.{bits_under}
use Rattle.halves.specs.Decision.{bits_of}
use Rattle.halves.specs.Pairs.{paired}
use Rattle.halves.specs.Polarities.{polarity_of}
use Rattle.halves.specs.declared.Pairing.{Pairing}
use Rattle.receiver.specs.History.{after_from}
use Rattle.receiver.specs.States.{proper_of}
use Rattle.receiver.specs.declared.Ran.{Ran}
use Rattle.receiver.specs.declared.State.{State}
use Rattle.face_halves.specs.Face.{decided_face}
use Rattle.face_halves.specs.Under.{decided_under, written_under}
use Rattle.face_receiver.specs.Under.{run_under}

-- how many bits `lw_decide` says that it wrote, what its slice holds then, and the bits: the first of the slice, as many as it says
module _ (polarity : ℕ) (readings : List Float) (margin : Float) (held : List ℕ) where
  abbrev pub told : ℕ
  told = (decided_face (decided_under polarity readings margin (length held))).bits

  abbrev pub slice : List ℕ
  slice = written_under polarity readings margin held

  abbrev pub decided : List ℕ
  decided = take told slice

-- a run of so many bits, none of them refused: one step for each
pub record Took (edition : Edition) (s : State) (bits : List ℕ) (ran : Ran State) : Type 0 where
  pub taken : ran.counts.refusal ≡ 0
  pub steps : ran.state ≡ after_from edition s bits
  pub balance : s.waiting + length bits ≡ 50 * (ran.counts.good + ran.counts.bad) + ran.counts.passed + ran.counts.waiting

-- whatever the board handed over and whatever the call answers
pub record Fed (polarity : ℕ) (readings : List Float) (margin : Float) (held : List ℕ) : Type 0 where
  -- as many bits as it says, each 0 or 1, and behind them the slice is as it was
  pub many : length (decided polarity readings margin held) ≡ told polarity readings margin held
  pub bits : Bits (decided polarity readings margin held)
  pub rest : drop (told polarity readings margin held) (slice polarity readings margin held) ≡ drop (told polarity readings margin held) held
  -- they are what the pairs say
  pub says :
      (pairing : Pairing) (count : ℕ) →
      decided_under polarity readings margin (length held) ≡ bits_under pairing count →
      decided polarity readings margin held ≡ bits_of (polarity_of polarity) margin (paired pairing readings)
  -- no run of them ends at a bit that is none, under any edition, in any state
  pub sound : (number : ℕ) (s : State) → (run_under number s (decided polarity readings margin held)).counts.refusal ≡ number_of NotABit → ⊥
  -- and a proper state takes all of them, where they are no more than a run may have
  pub feeds :
      (number : ℕ) (edition : Edition) (s : State) →
      edition_of number ≡ Ok edition →
      proper_of edition s ≡ true →
      told polarity readings margin held ≤ 65536 →
      Took edition s (decided polarity readings margin held) (run_under number s (decided polarity readings margin held))

abbrev pub FedAsBefore : Type 0
FedAsBefore = (polarity : ℕ) (readings : List Float) (margin : Float) (held : List ℕ) → Fed polarity readings margin held
