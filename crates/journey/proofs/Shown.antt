-- The statement: the run of a time block, some others and the block of minutes later, part by part, and the dates by the calendar's
-- ways there and back.
-- Assumes nothing.
use Prim.Native.Nat.{ℕ, ◌+◌, ◌*◌, ◌≤◌, ◌<◌}
use native.Mathlib.Nat.{zero-add}
use native.Mathlib.Omega.{arith}
use mathlib.Core.Path.{◌≡◌, sym, ap, ◌∙◌}
use mathlib.Core.Bool.{true}
use mathlib.Core.List.{List, [], ◌∷◌, ◌++◌, append-nil, flatten}
use borrow.Author.Tests.{ne_eqb, le-leb}
use lib.ListN.{length, length-append}
use Rattle.std.proofs.Common.{Ok}
use Rattle.block.specs.Read.{read_of}
use Rattle.block.proofs.RoundTrip.{written_good, read_back}
use Rattle.record.specs.declared.Edition.{Edition}
use Rattle.record.specs.declared.Record.{Record}
use Rattle.record.specs.Fields.{word_of}
use Rattle.calendar.specs.declared.Date.{Date}
use Rattle.calendar.specs.Years.{span}
use Rattle.calendar.specs.Dates.{date_of, coded_year}
use Rattle.calendar.specs.MinutesLater.{minutes_later, minutes_later_of_date}
use Rattle.calendar.proofs.Answers.{Usable, usable_is, record_given}
use Rattle.calendar.proofs.RoundTrip.{date_back}
use Rattle.calendar.proofs.MinutesLater.{coded_later, later_of_date}
use Rattle.calendar.proofs.GoesOn.{later_given}
use Rattle.timekeeping.specs.Proper.{time_proper}
use Rattle.timekeeping.specs.declared.Time.{Time}
use Rattle.timekeeping.specs.Times.{none, candidate, confirmed, time_of, no_time}
use Rattle.locking.specs.declared.Blocks.{Blocks}
use Rattle.locking.specs.Locks.{locked, lock_of, lock_proper}
use Rattle.locking.specs.Modes.{blocks_of, no_blocks}
use Rattle.receiver.specs.declared.State.{State}
use Rattle.receiver.specs.States.{nothing_waits, bits_proper, proper_of}
use Rattle.receiver.specs.Runs.{plus, ended, run_from, run_of}
use Rattle.receiver.proofs.Adding.{none_plus, plus_none, plus_assoc}
use Rattle.receiver.proofs.Together.{run_is}
use Rattle.journey.specs.Journey.{time_block, Other, Each, bad_run_after, LockHolds, count_read, count_blocks, Quiet, Missed, heard, Idle, holding, Leads, Writable, Journey, EveryJourney}
use Rattle.journey.proofs.Aging.{aged_all, grows_older, is_gone}
use Rattle.journey.proofs.Worded.{date_usable, has_word, word_fits}
use Rattle.journey.proofs.Minutes.{first_block, other_blocks, last_block}
use Rattle.journey.proofs.Missed.{others_append, heard_others, heard_length, missed_hold}

-- ---- lengths and counts

length_block : (r : Record) → length (time_block r) ≡ 50
length_block r = (written_good 0 (word_of r)).size

count_append : (ws vs : List (List ℕ)) → count_blocks (ws ++ vs) ≡ plus (count_blocks ws) (count_blocks vs)
count_append [] vs = sym (none_plus (count_blocks vs))
count_append (w ∷ ws) vs =
    ap (plus (count_read (read_of w))) (count_append ws vs) ∙ sym (plus_assoc (count_read (read_of w)) (count_blocks ws) (count_blocks vs))

module _ (edition : Edition) where
  length_flat : (ws rest : List (List ℕ)) → Each (Other edition) ws → length (flatten (ws ++ rest)) ≡ 50 * length ws + length (flatten rest)
  unfolding flatten
  length_flat [] rest o = omega arith
  length_flat (w ∷ ws) rest o = length-append w (flatten (ws ++ rest)) ∙ omega (arith, o.0.size, length_flat ws rest o.1)

  -- ---- the runs

  arrives : (s : State) (r : Record) → Idle edition s → Usable edition r → run_of edition s (time_block r) ≡ ended 0 (blocks_of 1 0 0) 0 (holding 0 candidate r 0)
  arrives s r i u =
      run_is edition s (time_block r) (omega (arith, length_block r)) i.proper ∙ first_block edition r s u i
      ∙ rw (read_back 0 (word_of r) (omega arith) (word_fits r u.in_range))

  module _ (kind : ℕ) (held : candidate ≤ kind) (known : kind ≤ confirmed) (r : Record) (u : Usable edition r) where
    begun : proper_of edition (holding 0 kind r 0) ≡ true
    unfolding proper_of bits_proper lock_proper time_proper
    begun = rw (ne_eqb kind none (λ z. omega arith), le-leb kind confirmed known, usable_is edition r u)

    -- others fed at age 0, what they make of the time, and what follows them
    on : (others rest : List (List ℕ)) (t : Time) → Each (Other edition) others → LockHolds 0 others → length others ≤ 120 → length (flatten rest) ≤ 50
        → aged_all (time_of kind r 0) (length others) ≡ t
        → run_of edition (holding 0 kind r 0) (flatten (others ++ rest))
        ≡ run_from edition (flatten rest) (count_blocks others) 0 (nothing_waits (lock_of locked 0 (bad_run_after 0 others) t))
    on others rest t o l few h e =
        run_is edition (holding 0 kind r 0) (flatten (others ++ rest)) (omega (arith, length_flat others rest o)) begun
        ∙ other_blocks edition others rest no_blocks 0 (time_of kind r 0) o l ∙ rw (none_plus (count_blocks others), e)

    leads : (others : List (List ℕ)) (t : Time) → Each (Other edition) others → LockHolds 0 others → length others ≤ 120
        → aged_all (time_of kind r 0) (length others) ≡ t → Leads edition (holding 0 kind r 0) others (nothing_waits (lock_of locked 0 (bad_run_after 0 others) t))
    unfolding flatten run_from
    leads others t o l few e =
        ap (λ (ws : List (List ℕ)). run_of edition (holding 0 kind r 0) (flatten ws)) (sym (append-nil others)) ∙ on others [] t o l few (omega arith) e

    still_held : (n : ℕ) → n < 120 → aged_all (time_of kind r 0) n ≡ time_of kind r n
    still_held n h = rw (zero-add n) at (grows_older kind held r 0 n (omega arith))

    module _ (minutes : ℕ) (from : 1 ≤ minutes) (to : minutes ≤ 4) (n : Record) (e : minutes_later edition minutes r ≡ Ok n) (v : Usable edition n) where
      confirms : (others : List (List ℕ)) → length others + 1 ≡ 30 * minutes → Each (Other edition) others → LockHolds 0 others
          → Leads edition (holding 0 kind r 0) (others ++ time_block n ∷ []) (holding 0 confirmed n 0)
      unfolding flatten
      confirms others whole o l =
          let last : List (List ℕ) = time_block n ∷ [] in
          let one = count_read (read_of (time_block n)) in
          let all : plus (count_blocks others) one ≡ count_blocks (others ++ last) =
          ap (plus (count_blocks others)) (sym (plus_none one)) ∙ sym (count_append others last) in
          on others last (time_of kind r (length others)) o l (omega arith) (omega (arith, length-append (time_block n) [], length_block n))
          (still_held (length others) (omega arith))
          ∙ last_block edition kind held r minutes (bad_run_after 0 others) (length others) n (count_blocks others) from to whole v e
          ∙ ap (λ (b : Blocks). ended 0 b 0 (holding 0 confirmed n 0)) all

      outlasts : (missed : List (Missed edition)) → length missed + 1 ≡ minutes → (before : List (List ℕ)) → Quiet edition before
          → Leads edition (holding 0 kind r 0) ((heard missed ++ before) ++ time_block n ∷ []) (holding 0 confirmed n 0)
      outlasts missed whole before q =
          confirms (heard missed ++ before) (omega (arith, length-append (heard missed) before, heard_length edition missed, q.count))
          (others_append edition (heard missed) before (heard_others edition missed) q.others) (missed_hold edition 0 missed before q)

  -- ---- the dates

  module _ (d : Date) (r : Record) (first : ℕ) (w : Writable edition d r first) (minutes : ℕ) (n : Record) (e : minutes_later edition minutes r ≡ Ok n) where
    dates_on : coded_year (minutes_later_of_date minutes d) < first + span → date_of edition n first ≡ Ok (minutes_later_of_date minutes d)
    dates_on h =
        date_back edition (minutes_later_of_date minutes d) n first
        (sym (later_of_date edition minutes d r w.is_recorded (omega (arith, w.to_last))) ∙ e)
        w.from_first
        w.to_last
        (omega (arith, w.begun, coded_later d (record_given edition d r w.is_recorded).0 minutes))
        h

  whole : (s : State) (d : Date) (r : Record) (first : ℕ) → Idle edition s → Writable edition d r first → Journey edition s d r first
  whole s d r first i w =
      let u : Usable edition r = date_usable edition d r w.is_recorded in
      record {
        has_word = has_word r u.in_range;
        arrives = arrives s r i u;
        dates_back = date_back edition d r first w.is_recorded w.from_first w.to_last w.begun w.within;
        lasts = λ kind held known others few o l. leads kind held known r u others (time_of kind r (length others)) o l (omega arith) (still_held kind held known r u (length others) few);
        ends = λ kind held known others count o l. leads kind held known r u others no_time o l (omega arith) (is_gone kind held r 0 (length others) (omega arith) (omega arith));
        goes_on = λ minutes from to.
            let later = later_given edition minutes r u in
            let n = later.0 in
            let e = later.1 in
            let v = later.2 in (
              n,
              e,
              record {
                has_word = has_word n v.in_range;
                confirms = λ kind held known. confirms kind held known r u minutes from to n e v;
                outlasts = λ kind held known. outlasts kind held known r u minutes from to n e v;
                dates_on = dates_on d r first w minutes n e;
              },
            );
      }

pub journey : EveryJourney
journey = whole
