-- The lock, which is a state without its bits, and when it is proper (01, "Hunting, trying, locked").
-- Assumes nothing.
use Rattle.std.specs.Prelude.{ℕ, Bool, cond, ◌&&◌, eqb, leb}
use Rattle.record.specs.declared.Edition.{Edition}
use Rattle.timekeeping.specs.declared.Time.{Time}
use Rattle.timekeeping.specs.Times.{no_time}
use Rattle.timekeeping.specs.Proper.{is_no_time, time_proper}
use Rattle.locking.specs.declared.Lock.{Lock}

-- the numbers of the modes
abbrev pub hunting : ℕ
hunting = 0

abbrev pub trying : ℕ
trying = 1

abbrev pub locked : ℕ
locked = 2

-- the mode, the good blocks when trying, the run of bad blocks when locked, and the time
abbrev pub lock_of : ℕ → ℕ → ℕ → Time → Lock
lock_of mode good bad time = record { mode = mode; good = good; bad = bad; time = time }

-- hunting with no time
abbrev pub fresh_lock : Lock
fresh_lock = lock_of hunting 0 0 no_time

-- ---- proper

-- hunting and trying hold no time; trying has 1 or 2 good blocks, locked a run of 0 to 3; counts not in use are 0
abbrev pub hunting_proper : ℕ → ℕ → Time → Bool
hunting_proper good bad t = eqb good 0 && (eqb bad 0 && is_no_time t)

abbrev pub trying_proper : ℕ → ℕ → Time → Bool
trying_proper good bad t = leb 1 good && (leb good 2 && (eqb bad 0 && is_no_time t))

abbrev pub locked_proper : Edition → ℕ → ℕ → Time → Bool
locked_proper edition good bad t = eqb good 0 && (leb bad 3 && time_proper edition t)

unfoldable pub lock_proper : Edition → Lock → Bool
lock_proper edition l =
    cond (eqb l.mode hunting) (hunting_proper l.good l.bad l.time)
    (cond (eqb l.mode trying) (trying_proper l.good l.bad l.time) (eqb l.mode locked && locked_proper edition l.good l.bad l.time))
