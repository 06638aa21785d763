-- How the time stands: the seven answers to why a dial is blank (02, No. 11).
-- Assumes nothing.
use Rattle.std.specs.Prelude.{ℕ, cond, eqb, Result, Ok, Err}
use Rattle.refusal.specs.declared.Refusal.{Refusal}
use Rattle.refusal.specs.declared.Refusal.TheVariants.{Improper}
use Rattle.record.specs.declared.Edition.{Edition}
use Rattle.timekeeping.specs.Times.{none, confirmed}
use Rattle.locking.specs.Locks.{locked}
use Rattle.watch.specs.declared.Standing.{Standing}
use Rattle.watch.specs.declared.Standing.TheVariants.{Confirmed, LockLost, NeverLocked, BlockMissing, NoUsableBlock, NotNextMinute, TooYoung}
use Rattle.watch.specs.declared.Watch.{Watch}
use Rattle.watch.specs.Watches.{watch_proper}

-- with the bit that is to blame, or another answer where there is none
abbrev pub blames : (ℕ → Standing) → Standing → ℕ → Standing
blames told otherwise bit = cond (eqb bit 0) otherwise (told bit)

-- Confirmed: so. Not locked: lock lost, or never locked. Locked, no time: the expected block missing if time was dropped since that
-- lock, else no usable block. A candidate: not the next minute if it displaced a held record, else too young
unfoldable pub standing_with : ℕ → ℕ → ℕ → ℕ → ℕ → Standing
standing_with mode kind lost dropped displaced =
    cond (eqb kind confirmed) Confirmed
    (cond (eqb mode locked)
    (cond (eqb kind none) (blames BlockMissing NoUsableBlock dropped) (blames NotNextMinute TooYoung displaced))
    (blames LockLost NeverLocked lost))

-- by what a watch remembers
abbrev pub standing_of : Watch → Standing
standing_of w = standing_with w.state.mode w.state.time w.lost w.dropped w.displaced

-- a watch that is not proper gets 10
unfoldable pub why_of : Edition → Watch → Result Standing Refusal
why_of edition w = cond (watch_proper edition w) (Ok (standing_of w)) (Err Improper)
