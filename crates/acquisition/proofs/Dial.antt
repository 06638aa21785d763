-- From lock to a confirmed time: each block is judged with its last bit, and until then the time is what it was; others leave none, or
-- age the candidate, and the second time block confirms it.
-- Assumes nothing.
use Prim.Native.Nat.{ℕ, suc, ◌+◌, ◌-◌, ◌*◌, ◌/◌, ◌<◌}
use native.Mathlib.Omega.{arith}
use mathlib.Core.Bool.{true}
use mathlib.Core.List.{List, [], ◌∷◌, ◌++◌, append_assoc, flatten}
use mathlib.Core.Logic.{⊎_elim}
use mathlib.Core.Path.{◌≡◌, refl, sym, ap, ◌∙◌}
use lib.ListN.{length, take, length-take}
use lib.Seq.{take-append-add}
use Rattle.std.proofs.Common.{Result, Ok, Err}
use Rattle.block.specs.Read.{read_of}
use Rattle.block.specs.declared.Body.{Body}
use Rattle.block.specs.declared.Refused.{Refused}
use Rattle.record.specs.declared.Edition.{Edition}
use Rattle.record.specs.declared.Record.{Record}
use Rattle.record.proofs.Tests.{le_or_lt}
use Rattle.timekeeping.specs.declared.Time.{Time}
use Rattle.timekeeping.specs.Times.{none, candidate, confirmed, time_of, no_time, usable_in, aged_by, offered_to}
use Rattle.locking.specs.declared.Judged.{Judged}
use Rattle.locking.specs.declared.Lock.{Lock}
use Rattle.locking.specs.Locks.{locked, lock_of}
use Rattle.locking.specs.Modes.{is_good}
use Rattle.locking.proofs.Choices.{held_judged}
use Rattle.receiver.specs.declared.State.{State}
use Rattle.receiver.specs.States.{nothing_waits}
use Rattle.receiver.specs.History.{after_from}
use Rattle.journey.specs.Journey.{Other, Each, bad_run, bad_run_after, LockHolds, holding}
use Rattle.journey.proofs.Aging.{aged_all, none_stays, grows_older}
use Rattle.journey.proofs.Fed.{offered, held}
use Rattle.journey.proofs.Minutes.{from_none, unusable_ages, later_confirms}
use Rattle.journey.proofs.Missed.{good_ends}
use Rattle.acquisition.specs.Wait.{just_locked}
use Rattle.acquisition.specs.Dial.{Feed, bits_of_feed, confirmed_after, ConfirmedWith, EveryFeedShows}
use Rattle.acquisition.proofs.Fed.{few, on}
use Rattle.acquisition.proofs.Joined.{good_window}

usable_good : (edition : Edition) (w : Result Body Refused) (r : Record) → usable_in edition w ≡ Ok r → is_good w ≡ true
unfolding usable_in
usable_good edition (Ok body) r e = refl
usable_good edition (Err why) r e = cc

module _ (edition : Edition) where
  -- the state after the first n bits, from a lock with which nothing waits
  abbrev state_after : Lock → List ℕ → ℕ → State
  state_after l bits n = after_from edition (nothing_waits l) (take n bits)

  -- the time is what it was until a block is whole
  within_block : (l : Lock) (bits : List ℕ) (n : ℕ) → n < 50 → (state_after l bits n).time ≡ l.time.kind
  within_block l bits n h = ap (λ (s : State). s.time) (few edition l (take n bits) (omega (arith, length-take n bits)))

  -- a block that does not end the lock
  block_past : (l : Lock) (w rest : List ℕ) (n : ℕ) → length w ≡ 50 → l.mode ≡ locked → bad_run l.bad (read_of w) < 4
      → state_after l (w ++ rest) (50 + n) ≡ state_after (offered edition l (read_of w)) rest n
  block_past l w rest n size m h =
      ap (λ (k : ℕ). state_after l (w ++ rest) (k + n)) (sym size) ∙ ap (after_from edition (nothing_waits l)) (take-append-add w rest n)
      ∙ on edition l w (take n rest) size (λ t. absurd (omega arith))
      ∙ ap (λ (j : Judged). after_from edition (nothing_waits j.lock) (take n rest)) (held_judged edition l (read_of w) m ∙ held edition l (read_of w) h)

  -- a usable time block
  time_past : (l : Lock) (w rest : List ℕ) (n : ℕ) (r : Record) → l.mode ≡ locked → usable_in edition (read_of w) ≡ Ok r
      → state_after l (w ++ rest) (50 + n) ≡ state_after (lock_of locked 0 0 (offered_to edition l.time (Ok r))) rest n
  time_past l w rest n r m e =
      let g : is_good (read_of w) ≡ true = usable_good edition (read_of w) r e in
      let b : bad_run l.bad (read_of w) ≡ 0 = good_ends l.bad (read_of w) g in
      block_past l w rest n (good_window w g).size m (omega arith) ∙ rw (b, e)

  module _ (rest : List ℕ) where
    other_past : (w : List ℕ) (bad : ℕ) (t : Time) (n : ℕ) (more : List ℕ) → Other edition w → bad_run bad (read_of w) < 4
        → state_after (lock_of locked 0 bad t) ((w ++ more) ++ rest) (50 + n) ≡ state_after (lock_of locked 0 (bad_run bad (read_of w)) (aged_by t)) (more ++ rest) n
    other_past w bad t n more o h =
        ap (λ (bits : List ℕ). state_after (lock_of locked 0 bad t) bits (50 + n)) (append_assoc w more rest)
        ∙ block_past (lock_of locked 0 bad t) w (more ++ rest) n o.size refl h ∙ rw (unusable_ages edition t (usable_in edition (read_of w)) o.unusable)

    -- others, one after the other
    others_past : (ws : List (List ℕ)) (bad : ℕ) (t : Time) (n : ℕ) → Each (Other edition) ws → LockHolds bad ws
        → state_after (lock_of locked 0 bad t) (flatten ws ++ rest) (50 * length ws + n) ≡ state_after (lock_of locked 0 (bad_run_after bad ws) (aged_all t (length ws))) rest n
    unfolding flatten aged_all
    others_past [] bad t n o h = let e : 50 * 0 + n ≡ n = omega arith in rw e
    others_past (w ∷ ws) bad t n o h =
        let e : 50 * length (w ∷ ws) + n ≡ 50 + (50 * length ws + n) = omega arith in
        rw e (other_past w bad t (50 * length ws + n) (flatten ws) o.0 h.0 ∙ others_past ws (bad_run bad (read_of w)) (aged_by t) n o.1 h.1)

    others_time : (ws : List (List ℕ)) (bad : ℕ) (t : Time) (n : ℕ) → Each (Other edition) ws → LockHolds bad ws → n < 50 * length ws + 50
        → (state_after (lock_of locked 0 bad t) (flatten ws ++ rest) n).time ≡ (aged_all t (n / 50)).kind
    unfolding flatten aged_all
    others_time [] bad t n o h m =
        let z : n / 50 ≡ 0 = omega arith in
        rw z (within_block (lock_of locked 0 bad t) rest n (omega arith))
    others_time (w ∷ ws) bad t n o h m =
        ⊎_elim
        (λ full.
        let e : 50 + (n - 50) ≡ n = omega arith in
        let f : n / 50 ≡ suc ((n - 50) / 50) = omega arith in
        rw f
        (ap (λ (k : ℕ). (state_after (lock_of locked 0 bad t) ((w ++ flatten ws) ++ rest) k).time) (sym e)
        ∙ ap (λ (s : State). s.time) (other_past w bad t (n - 50) (flatten ws) o.0 h.0)
        ∙ others_time ws (bad_run bad (read_of w)) (aged_by t) (n - 50) o.1 h.1 (omega arith)))
        (λ part.
        let z : n / 50 ≡ 0 = omega arith in
        rw z (within_block (lock_of locked 0 bad t) ((w ++ flatten ws) ++ rest) n part))
        (le_or_lt 50 n)

  -- ---- a feed

  module _ (f : Feed edition) where
    abbrev b : ℕ
    b = length f.before

    abbrev after_one : List ℕ
    after_one = flatten f.between ++ (f.two ++ f.more)

    abbrev start : Lock
    start = lock_of locked 0 0 no_time

    abbrev tells : Lock
    tells = lock_of locked 0 0 (time_of candidate f.told 0)

    -- up to the first time block, and with it
    one_past : (n : ℕ) → state_after start (bits_of_feed f) (50 * b + (50 + n)) ≡ state_after tells after_one n
    one_past n =
        others_past (f.one ++ after_one) f.before 0 no_time (50 + n) f.others_before f.holds_before
        ∙ rw (none_stays b)
        (time_past (lock_of locked 0 (bad_run_after 0 f.before) no_time) f.one after_one n f.told refl f.one_tells
        ∙ rw (from_none edition no_time f.told refl))

    -- up to the second, and with it
    two_past : state_after tells after_one 1500 ≡ holding 0 confirmed f.next 0
    unfolding after_from
    two_past =
        let e : 50 * length f.between + (50 + 0) ≡ 1500 = omega (arith, f.minute) in
        let l : Lock = lock_of locked 0 (bad_run_after 0 f.between) (time_of candidate f.told 29) in
        ap (state_after tells after_one) (sym e)
        ∙ others_past (f.two ++ f.more) f.between 0 (time_of candidate f.told 0) (50 + 0) f.others_between f.holds_between
        ∙ rw (f.minute, grows_older candidate (omega arith) f.told 0 29 (omega arith))
        (time_past l f.two f.more 0 f.next refl f.two_tells
        ∙ rw (later_confirms edition 1 candidate 29 f.told f.next (omega arith) (omega arith) (omega arith) (omega arith) f.later))

    none_before : (n : ℕ) → n < 50 * b + 50 → (state_after start (bits_of_feed f) n).time ≡ none
    none_before n h =
        others_time (f.one ++ after_one) f.before 0 no_time n f.others_before f.holds_before h ∙ ap (λ (t : Time). t.kind) (none_stays (n / 50))

    candidate_behind : (n : ℕ) → n < 1500 → (state_after start (bits_of_feed f) (50 * b + (50 + n))).time ≡ candidate
    candidate_behind n h =
        ap (λ (s : State). s.time) (one_past n)
        ∙ others_time (f.two ++ f.more) f.between 0 (time_of candidate f.told 0) n f.others_between f.holds_between (omega (arith, f.minute))
        ∙ ap (λ (t : Time). t.kind) (grows_older candidate (omega arith) f.told 0 (n / 50) (omega arith))

    shows : ConfirmedWith edition just_locked (bits_of_feed f) (confirmed_after f) f.next
    shows =
        record {
          not_yet = λ m h c.
              ⊎_elim
              (λ one.
              let e : 50 * b + (50 + (m - (50 * b + 50))) ≡ m = omega arith in
              omega (arith, rw e at (candidate_behind (m - (50 * b + 50)) (omega arith))))
              (λ before. omega (arith, none_before m before))
              (le_or_lt (50 * b + 50) m);
          then = let e : confirmed_after f ≡ 50 * b + (50 + 1500) = omega arith in rw e (one_past 1500 ∙ two_past);
        }

pub every_feed_shows : EveryFeedShows
every_feed_shows edition f = (shows edition f, omega (arith, f.few))
