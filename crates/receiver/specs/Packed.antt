-- The state with its waiting bits as one number, and the calls in that layout (02, No. 6).
-- Assumes nothing.
use Rattle.std.specs.Prelude.{ℕ, ◌^◌, Bool, cond, ◌&&◌, List, Result, ltb, length}
use Rattle.std.specs.Result.{result_map_both}
use Rattle.block.specs.Bits.{bits_of, value}
use Rattle.block.specs.Packed.{pack_of}
use Rattle.refusal.specs.declared.Refusal.{Refusal}
use Rattle.refusal.specs.Numbers.{number_of}
use Rattle.refusal.specs.declared.Refusal.TheVariants.{RunTooLong, Improper}
use Rattle.record.specs.declared.Edition.{Edition}
use Rattle.timekeeping.specs.Times.{time_of}
use Rattle.locking.specs.declared.Blocks.{Blocks}
use Rattle.locking.specs.declared.Lock.{Lock}
use Rattle.locking.specs.Locks.{lock_of, fresh_lock}
use Rattle.receiver.specs.declared.Ran.{Ran}
use Rattle.receiver.specs.declared.PackedState.{PackedState}
use Rattle.receiver.specs.declared.State.{State}
use Rattle.receiver.specs.States.{state_of, lock_in, proper_of}
use Rattle.receiver.specs.Runs.{counts_of, refused_run, run_of, fed_of}

-- a packed state: its lock, how many bits wait, and the number that holds them
abbrev pub packed_of : Lock → ℕ → ℕ → PackedState
packed_of l waiting bits =
    record {
      mode = l.mode;
      good = l.good;
      bad = l.bad;
      waiting = waiting;
      bits = bits;
      time = l.time.kind;
      held = l.time.held;
      age = l.time.age;
    }

-- the fifty places become one number, the first of them place 49
abbrev pub packed : State → PackedState
packed s = packed_of (lock_in s) s.waiting (value s.bits)

-- and the places 49 to 0 of the number become the fifty places
abbrev pub unpacked : PackedState → State
unpacked p = state_of (lock_of p.mode p.good p.bad (time_of p.time p.held p.age)) p.waiting (bits_of 50 p.bits)

-- the same as an answer: where a place holds no bit there is no such number
abbrev pub packing_of : State → Result PackedState Refusal
packing_of s = result_map_both (packed_of (lock_in s) s.waiting) (λ why. why) (pack_of s.bits)

-- hunting, nothing waiting, no time
abbrev pub fresh_packed : PackedState
fresh_packed = packed_of fresh_lock 0 0

-- no bit stands above place 49, and the state in fifty places is proper: so the places not in use are 0
unfoldable pub packed_proper : Edition → PackedState → Bool
packed_proper edition p = ltb p.bits (2 ^ 50) && proper_of edition (unpacked p)

-- ---- the calls

-- the counts of a run, and its state packed
abbrev pub packed_ran : Ran State → Ran PackedState
packed_ran r = record { counts = r.counts; state = packed r.state }

-- a run that ends here, with how many bits wait
abbrev pub ended_packed : ℕ → Blocks → ℕ → PackedState → Ran PackedState
ended_packed refusal blocks passed p = record { counts = counts_of refusal blocks passed p.waiting; state = p }

-- a run longer than 65,536 gets 9, then a state that is not proper 10; else it is the run of the fifty places
unfoldable pub run_packed : Edition → PackedState → List ℕ → Ran PackedState
run_packed edition p bs =
    cond (ltb 65536 (length bs)) (refused_run (number_of RunTooLong) p)
    (cond (packed_proper edition p) (packed_ran (run_of edition (unpacked p) bs)) (refused_run (number_of Improper) p))

-- one fed bit: a state that is not proper gets 10; else it is the bit fed to the fifty places
unfoldable pub fed_packed : Edition → PackedState → ℕ → Ran PackedState
fed_packed edition p b = cond (packed_proper edition p) (packed_ran (fed_of edition (unpacked p) b)) (refused_run (number_of Improper) p)
