-- The blocks of some minutes: a usable time block makes a candidate, each other block ages what is held by one, and the block of as
-- many minutes later as went by confirms.
-- Assumes nothing.
use Prim.Native.Nat.{ℕ, ◌+◌, ◌*◌, ◌<◌, ◌≤◌}
use native.Mathlib.Omega.{arith}
use mathlib.Core.Path.{◌≡◌, refl, sym, ap, ◌∙◌}
use mathlib.Core.Bool.{true, false}
use mathlib.Core.List.{List, [], ◌∷◌, ◌++◌, append-nil, flatten}
use borrow.Author.Tests.{eq-eqb, ne_eqb}
use lib.Dec.{eqb}
use lib.ListN.{length}
use Rattle.std.proofs.Common.{Result, Ok, Err, is_ok}
use Rattle.block.specs.Bits.{zeros}
use Rattle.block.specs.Block.{Good}
use Rattle.block.specs.Read.{read_of}
use Rattle.block.proofs.RoundTrip.{written_good, read_back}
use Rattle.record.specs.declared.Edition.{Edition}
use Rattle.record.specs.declared.Record.{Record}
use Rattle.refusal.specs.declared.Refusal.{Refusal}
use Rattle.record.specs.Fields.{word_of}
use Rattle.calendar.specs.MinutesLater.{minutes_later}
use Rattle.calendar.proofs.Answers.{Usable}
use Rattle.timekeeping.specs.declared.Time.{Time}
use Rattle.timekeeping.specs.Times.{none, candidate, confirmed, time_of, usable_in, same_minute, follows, renewed_by, aged_by, offered_to}
use Rattle.timekeeping.proofs.WholeMinutes.{confirms_exactly}
use Rattle.locking.specs.declared.Blocks.{Blocks}
use Rattle.locking.specs.declared.Lock.{Lock}
use Rattle.locking.specs.Locks.{locked, lock_of}
use Rattle.locking.specs.Modes.{no_blocks}
use Rattle.receiver.specs.declared.State.{State}
use Rattle.receiver.specs.States.{state_of, lock_in, nothing_waits}
use Rattle.receiver.specs.Runs.{plus, ended, run_from}
use Rattle.receiver.proofs.Adding.{none_plus, plus_none, plus_assoc}
use Rattle.journey.specs.Journey.{time_block, Other, Each, bad_run, bad_run_after, LockHolds, count_read, count_blocks, Idle, holding}
use Rattle.journey.proofs.Aging.{aged_all}
use Rattle.journey.proofs.Worded.{word_fits, block_usable}
use Rattle.journey.proofs.Fed.{feeds}

same : (n : ℕ) → eqb n n ≡ true
same n = eq-eqb n n refl

module _ (edition : Edition) where
  -- ---- what a block does to the time

  pub from_none : (t : Time) (r : Record) → t.kind ≡ none → offered_to edition t (Ok r) ≡ time_of candidate r 0
  unfolding offered_to renewed_by
  from_none t r e = rw e

  pub unusable_ages : (t : Time) (u : Result Record Refusal) → is_ok u ≡ false → offered_to edition t u ≡ aged_by t
  unfolding offered_to
  unusable_ages t (Ok n) e = cc
  unusable_ages t (Err why) e = refl

  pub is_later : (minutes : ℕ) (r n : Record) → minutes_later edition minutes r ≡ Ok n → follows edition minutes r n ≡ true
  unfolding follows same_minute
  is_later minutes r n e = rw e (simp same)

  pub later_confirms : (minutes kind age : ℕ) (r n : Record) → 1 ≤ minutes → minutes ≤ 4 → candidate ≤ kind → age + 1 ≡ 30 * minutes
      → follows edition minutes r n ≡ true → offered_to edition (time_of kind r age) (Ok n) ≡ time_of confirmed n 0
  unfolding offered_to renewed_by
  later_confirms minutes kind age r n from to held whole later =
      rw (
        ne_eqb kind none (λ z. omega arith),
        (confirms_exactly edition (age + 1) r n).1 (record { minutes = minutes; from = from; to = to; whole = whole; later = later }),
      )

  -- ---- a time block

  -- it is good, and its record is offered
  time_feeds : (r : Record) (bits rest : List ℕ) (blocks : Blocks) (l : Lock) → Usable edition r → length bits ≡ 50 → l.mode ≡ locked
      → run_from edition (time_block r ++ rest) blocks 0 (state_of l 0 bits)
      ≡ run_from edition rest (plus blocks (count_read (read_of (time_block r)))) 0 (nothing_waits (lock_of locked 0 0 (offered_to edition l.time (Ok r))))
  time_feeds r bits rest blocks l u places m =
      let w : List ℕ = time_block r in
      let g : Good w = written_good 0 (word_of r) in
      let ends : bad_run l.bad (read_of w) ≡ 0 = rw (read_back 0 (word_of r) (omega arith) (word_fits r u.in_range)) in
      feeds edition w bits rest blocks l g.size g.bits places m (omega arith) ∙ rw (ends, block_usable edition r u)

  -- ---- the run

  -- the first time block, fed to an idle receiver, is a candidate
  pub first_block : (r : Record) (s : State) → Usable edition r → Idle edition s → run_from edition (time_block r) no_blocks 0 s ≡ ended 0 (count_read (read_of (time_block r))) 0 (holding 0 candidate r 0)
  unfolding run_from
  first_block r s u i =
      ap (λ (l : List ℕ). run_from edition l no_blocks 0 s) (sym (append-nil (time_block r)))
      ∙ ap (λ (k : ℕ). run_from edition (time_block r ++ []) no_blocks 0 (state_of (lock_in s) k s.bits)) i.none_waits
      ∙ time_feeds r s.bits [] no_blocks (lock_in s) u i.places i.is_locked
      ∙ rw (from_none (lock_in s).time r i.holds_none) (ap (λ (b : Blocks). ended 0 b 0 (holding 0 candidate r 0)) (none_plus (count_read (read_of (time_block r)))))

  -- one of the others ages the time
  one_other : (w rest : List ℕ) (blocks : Blocks) (bad : ℕ) (t : Time) → Other edition w → bad_run bad (read_of w) < 4
      → run_from edition (w ++ rest) blocks 0 (nothing_waits (lock_of locked 0 bad t))
      ≡ run_from edition rest (plus blocks (count_read (read_of w))) 0 (nothing_waits (lock_of locked 0 (bad_run bad (read_of w)) (aged_by t)))
  one_other w rest blocks bad t o l =
      feeds edition w (zeros 50) rest blocks (lock_of locked 0 bad t) o.size o.bits refl refl l
      ∙ rw (unusable_ages t (usable_in edition (read_of w)) o.unusable)

  -- so do some, one after the other
  pub other_blocks : (ws rest : List (List ℕ)) (blocks : Blocks) (bad : ℕ) (t : Time) → Each (Other edition) ws → LockHolds bad ws
      → run_from edition (flatten (ws ++ rest)) blocks 0 (nothing_waits (lock_of locked 0 bad t))
      ≡ run_from edition (flatten rest) (plus blocks (count_blocks ws)) 0 (nothing_waits (lock_of locked 0 (bad_run_after bad ws) (aged_all t (length ws))))
  unfolding flatten aged_all
  other_blocks [] rest blocks bad t o l = rw (plus_none blocks)
  other_blocks (w ∷ ws) rest blocks bad t o l =
      one_other w (flatten (ws ++ rest)) blocks bad t o.0 l.0
      ∙ rw (← plus_assoc blocks (count_read (read_of w)) (count_blocks ws))
      (other_blocks ws rest (plus blocks (count_read (read_of w))) (bad_run bad (read_of w)) (aged_by t) o.1 l.1)

  module _ (kind : ℕ) (held : candidate ≤ kind) (r : Record) where
    -- the block of as many minutes later as went by leaves its record confirmed
    pub last_block : (minutes bad age : ℕ) (n : Record) (blocks : Blocks) → 1 ≤ minutes → minutes ≤ 4 → age + 1 ≡ 30 * minutes → Usable edition n → minutes_later edition minutes r ≡ Ok n
        → run_from edition (flatten (time_block n ∷ [])) blocks 0 (holding bad kind r age) ≡ ended 0 (plus blocks (count_read (read_of (time_block n)))) 0 (holding 0 confirmed n 0)
    unfolding flatten run_from
    last_block minutes bad age n blocks from to whole u e =
        time_feeds n (zeros 50) [] blocks (lock_of locked 0 bad (time_of kind r age)) u refl refl ∙ rw (later_confirms minutes kind age r n from to held whole (is_later minutes r n e))
