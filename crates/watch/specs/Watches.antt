-- A watch: a receiver with what is remembered of its history, and a run into it (02, No. 11).
-- Assumes nothing.
use Rattle.std.specs.Prelude.{ℕ, ◌+◌, ◌-◌, ◌*◌, ◌^◌, Bool, cond, not, ◌&&◌, ◌||◌, List, [], ◌∷◌, eqb, leb, ltb, length}
use Rattle.refusal.specs.Numbers.{number_of}
use Rattle.refusal.specs.declared.Refusal.TheVariants.{RunTooLong, Improper}
use Rattle.record.specs.declared.Edition.{Edition}
use Rattle.timekeeping.specs.Times.{none, candidate}
use Rattle.locking.specs.Locks.{locked}
use Rattle.receiver.specs.declared.Counts.{Counts}
use Rattle.receiver.specs.declared.PackedState.{PackedState}
use Rattle.receiver.specs.declared.Ran.{Ran}
use Rattle.receiver.specs.Steps.{step_of}
use Rattle.receiver.specs.Runs.{plus, counts_of, blocks_in, refused_run}
use Rattle.receiver.specs.History.{bits_before}
use Rattle.receiver.specs.Packed.{packed, unpacked, fresh_packed, packed_proper, run_packed}
use Rattle.watch.specs.declared.Watch.{Watch}

-- the receiver's state, the bits fed, and the bits of the last loss of lock, the last drop since the present lock, and the block that
-- made the held candidate where it displaced a held record
abbrev pub watch_of : PackedState → ℕ → ℕ → ℕ → ℕ → Watch
watch_of state fed lost dropped displaced = record { state = state; fed = fed; lost = lost; dropped = dropped; displaced = displaced }

-- nothing fed, nothing to remember
abbrev pub fresh_watch : Watch
fresh_watch = watch_of fresh_packed 0 0 0 0

-- ---- proper

-- none of the remembered bits is behind those fed
abbrev pub none_ahead : ℕ → ℕ → ℕ → ℕ → Bool
none_ahead fed lost dropped displaced = leb lost fed && (leb dropped fed && leb displaced fed)

-- a bit is remembered only where there is something to remember
abbrev pub none_unless : Bool → ℕ → Bool
none_unless something bit = something || eqb bit 0

-- the state is proper in the edition of the call; no bit is behind those fed; no drop is remembered unless locked, and no displacement
-- unless a candidate is held
unfoldable pub watch_proper : Edition → Watch → Bool
watch_proper edition w =
    packed_proper edition w.state
    && (none_ahead w.fed w.lost w.dropped w.displaced
    && (none_unless (eqb w.state.mode locked) w.dropped && none_unless (eqb w.state.time candidate) w.displaced))

-- ---- what is remembered

-- a kind of time with which a record is held
abbrev pub is_held : ℕ → Bool
is_held kind = not (eqb kind none)

-- of two kinds, one before and one after: a record was held, and none is
abbrev pub lets_go : ℕ → ℕ → Bool
lets_go before after = is_held before && eqb after none

-- of two modes: locked before, and not after
abbrev pub loses_lock : ℕ → ℕ → Bool
loses_lock before after = eqb before locked && not (eqb after locked)

-- how many bits ago the block of the held record ended: fifty for each block of its age, and those that wait
abbrev pub since : PackedState → ℕ
since p = 50 * p.age + p.waiting

-- What is remembered when n bits were fed, if of the latest only the last may have changed lock or the kind of the time. Lock is lost
-- with the last; time is dropped with the last, while lock stays; and a candidate whose block ended among the latest displaced what was
-- held before them
abbrev pub loss_after : ℕ → ℕ → ℕ → ℕ → ℕ
loss_after before after n lost = cond (loses_lock before after) n lost

abbrev pub drop_after : ℕ → ℕ → ℕ → ℕ → ℕ → ℕ
drop_after mode before after n dropped = cond (eqb mode locked) (cond (lets_go before after) n dropped) 0

abbrev pub displaced_after : ℕ → ℕ → ℕ → ℕ → ℕ → ℕ → ℕ
displaced_after before after n since latest displaced =
    cond (eqb after candidate) (cond (ltb since latest) (cond (is_held before) (n - since) 0) displaced) 0

unfoldable pub remembered : Watch → PackedState → ℕ → Watch
remembered w p latest =
    let n : ℕ = w.fed + latest in
    watch_of p n (loss_after w.state.mode p.mode n w.lost) (drop_after p.mode w.state.time p.time n w.dropped)
    (displaced_after w.state.time p.time n (since p) latest w.displaced)

-- after one bit: a stretch of its own
abbrev pub watch_next : Edition → Watch → ℕ → Watch
watch_next edition w b = remembered w (packed (step_of edition (unpacked w.state) b).next) 1

-- the bits one after the other
unfoldable pub watch_after : Edition → Watch → List ℕ → Watch
watch_after edition w [] = w
watch_after edition w (b ∷ bs) = watch_after edition (watch_next edition w b) bs

-- ---- a run

-- what one part of a run counts, and then the next
abbrev pub joined : Counts → Counts → Counts
joined before after = counts_of after.refusal (plus (blocks_in before) (blocks_in after)) (before.passed + after.passed) after.waiting

-- it counts as a run into the receiver, and the bits before the first that is none are watched
abbrev pub watched_from : Edition → Watch → List ℕ → Ran Watch
watched_from edition w bs = record { counts = (run_packed edition w.state bs).counts; state = watch_after edition w (bits_before bs) }

-- more than 65,536 bits get 9, and so do bits that would take those fed past 2^64 - 1; then a watch that is not proper gets 10
unfoldable pub watched_of : Edition → Watch → List ℕ → Ran Watch
watched_of edition w bs =
    cond (ltb 65536 (length bs)) (refused_run (number_of RunTooLong) w)
    (cond (leb (2 ^ 64) (w.fed + length bs)) (refused_run (number_of RunTooLong) w)
    (cond (watch_proper edition w) (watched_from edition w bs) (refused_run (number_of Improper) w)))
