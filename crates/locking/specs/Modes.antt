-- Judging a full window in each of the three modes (01, "Hunting, trying, locked").
-- Assumes nothing.
use Rattle.std.specs.Prelude.{ℕ, ◌+◌, Bool, cond, eqb, leb, Result, is_ok}
use Rattle.block.specs.Read.{remainder_read}
use Rattle.block.specs.declared.Body.{Body}
use Rattle.block.specs.declared.Refused.{Refused}
use Rattle.record.specs.declared.Edition.{Edition}
use Rattle.timekeeping.specs.declared.Time.{Time}
use Rattle.timekeeping.specs.Times.{no_time, usable_in, offered_to}
use Rattle.locking.specs.declared.Blocks.{Blocks}
use Rattle.locking.specs.declared.Judged.{Judged}
use Rattle.locking.specs.declared.Lock.{Lock}
use Rattle.locking.specs.Locks.{hunting, trying, locked, lock_of, fresh_lock}

abbrev pub is_good : Result Body Refused → Bool
is_good read = is_ok read

-- how many blocks were good and how many bad, and the last remainder that a bad one told, 0 where none did
abbrev pub blocks_of : ℕ → ℕ → ℕ → Blocks
blocks_of good bad remainder = record { good = good; bad = bad; remainder = remainder }

abbrev pub no_blocks : Blocks
no_blocks = blocks_of 0 0 0

-- what a judged window counts, and the lock after it: a good block, a bad block with the remainder that it tells (02, No. 7), or one
-- bit passed over, which is no block and tells none
abbrev pub good_block : Lock → Judged
good_block l = record { blocks = blocks_of 1 0 0; passed = 0; lock = l }

abbrev pub bad_block : ℕ → Lock → Judged
bad_block told l = record { blocks = blocks_of 0 1 told; passed = 0; lock = l }

abbrev pub passed_over : Lock → Judged
passed_over l = record { blocks = no_blocks; passed = 1; lock = l }

-- hunting: a good window is the first good block of trying; any other passes the oldest bit over
unfoldable pub hunted : Result Body Refused → Judged
hunted w = cond (is_good w) (good_block (lock_of trying 1 0 no_time)) (passed_over fresh_lock)

-- trying: one more good block, and at three the state is locked; a bad one goes back to hunting
unfoldable pub tried : ℕ → Result Body Refused → Judged
tried good w =
    cond (is_good w) (good_block (cond (leb 3 (good + 1)) (lock_of locked 0 0 no_time) (lock_of trying (good + 1) 0 no_time))) (bad_block (remainder_read w) fresh_lock)

-- locked: the block is offered to the time, then a good one ends the run of bad ones, and a fourth bad one ends the lock
unfoldable pub held_on : Edition → ℕ → Time → Result Body Refused → Judged
held_on edition bad t w =
    cond (is_good w) (good_block (lock_of locked 0 0 (offered_to edition t (usable_in edition w))))
    (bad_block (remainder_read w) (cond (leb 4 (bad + 1)) fresh_lock (lock_of locked 0 (bad + 1) (offered_to edition t (usable_in edition w)))))

unfoldable pub judged_by : Edition → Lock → Result Body Refused → Judged
judged_by edition l w = cond (eqb l.mode hunting) (hunted w) (cond (eqb l.mode trying) (tried l.good w) (held_on edition l.bad l.time w))
