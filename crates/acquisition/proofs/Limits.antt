-- The limits: each witness is written out, and the checker computes what it does; what is repeated is walked once.
-- Assumes nothing.
use Prim.Native.Nat.{ℕ, zero, suc, ◌+◌, ◌-◌, ◌%◌, ◌^◌, ◌≤◌, ◌<◌}
use native.Mathlib.Omega.{arith}
use mathlib.Core.Bool.{Bool, true, not, cond, ◌&&◌}
use mathlib.Core.List.{List, [], ◌∷◌, ◌++◌}
use mathlib.Core.Path.{◌≡◌, refl, ap, ◌∙◌}
use borrow.Author.Tests.{le-leb}
use lib.Dec.{T, T_not, eqb, leb}
use lib.ListN.{length, replicate, take, drop, length-drop}
use mir.Facts.{and_yes}
use Rattle.block.specs.Bits.{bits_of, value_from, zeros}
use Rattle.block.specs.Block.{body_of, block_of}
use Rattle.block.specs.Division.{remainder_from}
use Rattle.block.specs.Read.{read_of}
use Rattle.block.proofs.Below.{below, at_below}
use Rattle.detection.specs.Slips.{Message, sent, window}
use Rattle.detection.proofs.Seams.{repeats}
use Rattle.record.specs.declared.Edition.{Edition}
use Rattle.record.specs.declared.Edition.TheVariants.{Of1984, Of1982}
use Rattle.timekeeping.specs.Proper.{is_no_time, is_zero_record, time_proper}
use Rattle.timekeeping.specs.Times.{no_time, usable_in, aged_by, offered_to}
use Rattle.locking.specs.Locks.{trying, locked, lock_of, lock_proper}
use Rattle.locking.specs.Modes.{is_good, hunted, tried, held_on, judged_by}
use Rattle.receiver.specs.declared.State.{State}
use Rattle.receiver.specs.States.{state_of, fresh_of, bits_proper, proper_of}
use Rattle.receiver.specs.Steps.{judged_step, step_of}
use Rattle.receiver.specs.History.{after_from, after_first}
use Rattle.acquisition.specs.Heard.{heard_from, GoodAt, NotGoodAt}
use Rattle.acquisition.specs.Limits.{LateLock, WrongLock, LongestWait}
use Rattle.acquisition.proofs.Windows.{not_good, window_heard}
use Rattle.acquisition.proofs.Fresh.{acquires}

-- ---- never locked

abbrev is_locked : State → Bool
is_locked s = eqb s.mode locked

-- no state is locked along these bits, the last one aside
never_locked : Edition → State → List ℕ → Bool
never_locked edition s [] = true
never_locked edition s (b ∷ bits) = not (is_locked s) && never_locked edition (step_of edition s b).next bits

never_locked_lem : (edition : Edition) (s : State) (bits : List ℕ) (n : ℕ) → T (never_locked edition s bits) → n < length bits
    → (after_from edition s (take n bits)).mode ≡ locked → ⊥
unfolding never_locked after_from
never_locked_lem edition s [] n t h m = absurd (omega arith)
never_locked_lem edition s (b ∷ bits) zero t h m = T_not (is_locked s) (and_yes (not (is_locked s)) (never_locked edition (step_of edition s b).next bits) t).0 (rw m tt)
never_locked_lem edition s (b ∷ bits) (suc n) t h m =
    never_locked_lem edition (step_of edition s b).next bits n (and_yes (not (is_locked s)) (never_locked edition (step_of edition s b).next bits) t).1 (omega arith) m

-- ---- lock that is late

message : (code word : ℕ) → code < 16 → word < 2 ^ 32 → Message
message code word c w = record { code = code; word = word; code_fits = c; word_fits = w }

deceiving : List Message
deceiving = message 0 0x009F0800 (omega arith) (omega arith) ∷ replicate 5 (message 0 0 (omega arith) (omega arith))

never_before : (edition : Edition) → T (never_locked edition fresh_of (heard_from 1 deceiving))
unfolding never_locked deceiving message value_from remainder_from bits_of body_of block_of read_of hunted tried judged_by fresh_of judged_step step_of
never_before Of1984 = tt
never_before Of1982 = tt

locked_then : (edition : Edition) → (after_first edition 299 (heard_from 1 deceiving)).mode ≡ locked
unfolding deceiving message value_from remainder_from bits_of body_of block_of read_of hunted tried judged_by fresh_of judged_step step_of after_from
locked_then Of1984 = refl
locked_then Of1982 = refl

good_within : is_good (read_of (window (sent deceiving) 25)) ≡ true
unfolding deceiving message value_from remainder_from bits_of body_of block_of read_of
good_within = refl

length_deceiving : length (heard_from 1 deceiving) ≡ 299
unfolding deceiving message bits_of body_of block_of
length_deceiving = refl

pub late_lock : LateLock
late_lock =
    record {
      messages = deceiving;
      left = 1;
      inside = omega arith;
      start = 25;
      heard = omega arith;
      no_start = λ e. omega arith;
      taken_as_good = good_within;
      not_yet = λ edition n h. never_locked_lem edition fresh_of (heard_from 1 deceiving) n (never_before edition) (omega (arith, length_deceiving));
      comes = locked_then;
    }

-- ---- lock in a wrong place

repeated : Message
repeated = message 15 0x85000000 (omega arith) (omega arith)

-- its end and then its beginning
turned : ℕ → List ℕ
turned d = drop d (block_of 15 0x85000000) ++ take d (block_of 15 0x85000000)

turned_good : is_good (read_of (turned 12)) ≡ true
unfolding turned value_from remainder_from bits_of body_of block_of read_of
turned_good = refl

turned_not : T (below 11 (λ d. not (is_good (read_of (turned (suc d))))))
unfolding turned value_from remainder_from bits_of body_of block_of read_of
turned_not = tt

module _ (times left : ℕ) (a : 1 ≤ left) (b : left ≤ 12) where
  abbrev heard : List ℕ
  heard = heard_from left (replicate times repeated)

  windows_turned : (i d : ℕ) → (left + i) % 50 ≡ d → 1 ≤ d → i + 50 ≤ length heard → window heard i ≡ turned d
  unfolding turned repeated message
  windows_turned i d e p h =
      window_heard (replicate times repeated) left (omega arith) i
      ∙ repeats repeated times d (left + i) e p (omega (arith, length-drop left (sent (replicate times repeated))))

  good_again : (i : ℕ) → i % 50 ≡ 12 - left → GoodAt heard i
  good_again i e h = ap (λ (w : List ℕ). is_good (read_of w)) (windows_turned i 12 (omega arith) (omega arith) h) ∙ turned_good

  not_before : (i : ℕ) → i < 12 - left → NotGoodAt heard i
  not_before i m h =
      let d : ℕ = left + i - 1 in
      let e : (left + i) % 50 ≡ suc d = omega arith in
      ap (λ (w : List ℕ). is_good (read_of w)) (windows_turned i (suc d) e (omega arith) h)
      ∙ not_good (turned (suc d)) (at_below 11 (λ d. not (is_good (read_of (turned (suc d))))) turned_not d (omega arith))

pub wrong_lock : WrongLock
wrong_lock =
    record {
      message = repeated;
      slip = 12;
      inside = (omega arith, omega arith);
      wrong = λ edition times left a b.
          acquires edition (heard_from left (replicate times repeated)) (12 - left) (omega arith) (not_before times left a b) (good_again times left a b);
    }

-- ---- the longest wait

-- the bit that waits makes a good window of the first two messages' bits from place 9 on
joining : List Message
joining =
    message 7 0xd0000000 (omega arith) (omega arith) ∷ message 3 0x20000000 (omega arith) (omega arith) ∷ replicate 7 (message 0 0 (omega arith) (omega arith))

one_waits : State
one_waits = state_of (lock_of locked 0 0 no_time) 1 (1 ∷ zeros 49)

-- no good window starts here, far from the start of a block
far_test : List ℕ → ℕ → Bool
far_test run start = cond (leb 8 (start % 50) && leb (start % 50) 43) (not (is_good (read_of (window run start)))) true

far_tested : T (below 300 (λ i. far_test (sent joining) (9 + i)))
unfolding far_test joining message value_from remainder_from bits_of body_of block_of read_of
far_tested = tt

still_trying : (edition : Edition) → (after_from edition one_waits (take 440 (heard_from 9 joining))).mode ≡ trying
unfolding joining one_waits message value_from remainder_from bits_of body_of block_of read_of usable_in aged_by offered_to hunted tried held_on judged_by judged_step step_of after_from
still_trying Of1984 = refl
still_trying Of1982 = refl

one_proper : (edition : Edition) → proper_of edition one_waits ≡ true
unfolding one_waits proper_of bits_proper lock_proper time_proper is_no_time is_zero_record
one_proper edition = refl

pub longest_wait : LongestWait
unfolding one_waits far_test
longest_wait =
    record {
      messages = joining;
      left = 9;
      inside = omega arith;
      far = λ start a b c d h.
          let e : 9 + (start - 9) ≡ start = omega arith in
          let t : T (far_test (sent joining) start) = rw e at (at_below 300 (λ i. far_test (sent joining) (9 + i)) far_tested (start - 9) (omega arith)) in
          not_good (window (sent joining) start) (rw (le-leb 8 (start % 50) c, le-leb (start % 50) 43 d) at t);
      state = one_waits;
      places = refl;
      proper = one_proper;
      not_yet = λ edition m. omega (arith, still_trying edition);
    }
