-- A run that ends where lock comes or goes, or also where the kind of the time changes, and how many bits it fed (01, "The receiver
-- program": lock comes and goes with a bit; 02, No. 11: so does the way in which the time stands).
-- Assumes nothing.
use Rattle.std.specs.Prelude.{ℕ, ◌+◌, Bool, true, cond, not, ◌&&◌, List, [], ◌∷◌, eqb, ltb, length}
use Rattle.refusal.specs.Numbers.{number_of}
use Rattle.refusal.specs.declared.Refusal.{Refusal}
use Rattle.refusal.specs.declared.Refusal.TheVariants.{RunTooLong, Improper}
use Rattle.record.specs.declared.Edition.{Edition}
use Rattle.locking.specs.declared.Blocks.{Blocks}
use Rattle.locking.specs.declared.Lock.{Lock}
use Rattle.locking.specs.Locks.{locked}
use Rattle.receiver.specs.declared.Ran.{Ran}
use Rattle.receiver.specs.declared.PackedState.{PackedState}
use Rattle.receiver.specs.declared.State.{State}
use Rattle.receiver.specs.declared.Stretch.{Stretch}
use Rattle.receiver.specs.declared.Until.{Until}
use Rattle.receiver.specs.declared.Until.TheVariants.{LastBit, LockChange, AnyChange}
use Rattle.receiver.specs.States.{lock_in}
use Rattle.receiver.specs.Steps.{step_of}
use Rattle.receiver.specs.Runs.{refused_run, run_from, run_of}
use Rattle.receiver.specs.History.{bits_before}
use Rattle.receiver.specs.Packed.{unpacked, packed_proper, packed_ran}

-- of two modes, one before and one after: both are locked, or neither is
unfoldable pub same_lock : ℕ → ℕ → Bool
same_lock before after = cond (eqb before locked) (eqb after locked) (not (eqb after locked))

-- behind a bit with these locks before and after it a run goes on: where it is to end with its last bit only, always; else where lock
-- neither comes nor goes, or where besides the kind of the time stays
unfoldable pub runs_on : Until → Lock → Lock → Bool
runs_on LastBit before after = true
runs_on LockChange before after = same_lock before.mode after.mode
runs_on AnyChange before after = same_lock before.mode after.mode && eqb before.time.kind after.time.kind

-- the bits that a run is made of: up to and with the one behind which it does not go on, or all
unfoldable pub up_to : Edition → Until → State → List ℕ → List ℕ
up_to edition until s [] = []
up_to edition until s (b ∷ bs) =
    let t : State = (step_of edition s b).next in
    b ∷ cond (runs_on until (lock_in s) (lock_in t)) (up_to edition until t bs) []

-- a run, and how many bits it fed
abbrev pub with_fed : Ran PackedState → ℕ → Stretch
with_fed ran fed = record { ran = ran; fed = fed }

-- the bits one after the other, with what was fed and counted before; those before the first that is no bit are fed
abbrev pub stretch_from : Edition → List ℕ → ℕ → Blocks → ℕ → State → Stretch
stretch_from edition bs fed blocks passed s = with_fed (packed_ran (run_from edition bs blocks passed s)) (fed + length (bits_before bs))

-- refused before any bit is fed
abbrev pub refused_stretch : Refusal → PackedState → Stretch
refused_stretch why p = with_fed (refused_run (number_of why) p) 0

-- More than 65,536 bits get 9, then a state that is not proper 10. Else it is the run of the bits up to where it stops; those
-- before the first that is no bit are fed
unfoldable pub stretch_of : Edition → Until → PackedState → List ℕ → Stretch
stretch_of edition until p bs =
    let fed : List ℕ = up_to edition until (unpacked p) bs in
    cond (ltb 65536 (length bs)) (refused_stretch RunTooLong p)
    (cond (packed_proper edition p) (with_fed (packed_ran (run_of edition (unpacked p) fed)) (length (bits_before fed))) (refused_stretch Improper p))
