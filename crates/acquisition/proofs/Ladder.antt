-- From a fresh state to a confirmed time: lock as promised, and then the feed from lock on; and a run that takes as long as any.
-- Assumes nothing.
use Prim.Native.Nat.{ℕ, zero, suc, ◌+◌, ◌-◌, ◌*◌, ◌≤◌, ◌<◌}
use native.Mathlib.Omega.{arith}
use mathlib.Core.Bool.{Bool, not}
use mathlib.Core.List.{List, [], ◌∷◌, ◌++◌, append_assoc, flatten}
use mathlib.Core.Logic.{⊎_elim}
use mathlib.Core.Path.{◌≡◌, refl, sym, ap, ◌∙◌}
use lib.Dec.{T}
use lib.IntN.{pos}
use lib.ListN.{length, replicate, take, drop, length-append, length-drop}
use lib.Seq.{drop_at, drop-drop, take-add}
use Rattle.std.proofs.Common.{Ok}
use Rattle.block.specs.Bits.{bits_of, value_from}
use Rattle.block.specs.Block.{body_of, block_of}
use Rattle.block.specs.Division.{remainder_from}
use Rattle.block.specs.Read.{read_of}
use Rattle.block.proofs.Below.{below, at_below}
use Rattle.block.proofs.RoundTrip.{written_good}
use Rattle.detection.specs.Slips.{Message, sent}
use Rattle.detection.proofs.Seams.{joint, length_sent}
use Rattle.record.specs.declared.Edition.{Edition}
use Rattle.record.specs.declared.Edition.TheVariants.{Of1984, Of1982}
use Rattle.record.specs.declared.Record.{Record}
use Rattle.record.specs.Editions.{filler}
use Rattle.record.specs.Fields.{word_of}
use Rattle.record.specs.Ranges.{offset_in_range, time_in_range, kind_in_range, day_in_range, in_range}
use Rattle.record.proofs.Tests.{le_or_lt}
use Rattle.calendar.specs.LeapCodes.{says_leap}
use Rattle.calendar.specs.Weeks.{weeks_of}
use Rattle.calendar.specs.Dates.{usable_of}
use Rattle.calendar.specs.MinutesLater.{minutes_later}
use Rattle.calendar.proofs.Answers.{Usable, usable_given}
use Rattle.calendar.proofs.GoesOn.{later_given}
use Rattle.timekeeping.specs.Times.{confirmed}
use Rattle.locking.specs.Modes.{is_good}
use Rattle.receiver.specs.declared.State.{State}
use Rattle.receiver.specs.States.{fresh_of}
use Rattle.receiver.specs.History.{after_from, after, after_first}
use Rattle.receiver.proofs.Earned.{held_is_locked}
use Rattle.receiver.proofs.WholeHistory.{after_append}
use Rattle.journey.specs.Journey.{time_block}
use Rattle.journey.proofs.Minutes.{is_later}
use Rattle.journey.proofs.Missed.{missed_hold}
use Rattle.journey.proofs.NotEmpty.{in_word, quiet}
use Rattle.journey.proofs.Worded.{word_fits, block_usable}
use Rattle.acquisition.specs.Heard.{heard_from, bits_before_block, OnlyBlocksFar}
use Rattle.acquisition.specs.Wait.{just_locked, Acquires, wait}
use Rattle.acquisition.specs.Dial.{Feed, bits_of_feed, confirmed_after, TwoMinutes, Ladder, LongestLadder}
use Rattle.acquisition.proofs.Windows.{not_good}
use Rattle.acquisition.proofs.Fresh.{far_promise, unlocked, wait_bounds}
use Rattle.acquisition.proofs.Dial.{every_feed_shows}

module _ (edition : Edition) (heard : List ℕ) (before : ℕ) (a : Acquires edition heard before) (long : before + 150 ≤ length heard) where
  abbrev n : ℕ
  n = before + 150

  -- before lock there is no time
  unconfirmed : (m : ℕ) → m < n → (after_first edition m heard).time ≡ confirmed → ⊥
  unconfirmed m h c = unlocked edition heard before a m h (omega arith) (held_is_locked edition (take m heard) (λ e. omega arith))

  -- from lock on it is the state that has just locked, fed with the rest
  from_lock : (m : ℕ) → after_first edition (n + m) heard ≡ after_from edition just_locked (take m (drop n heard))
  from_lock m =
      ap (after edition) (take-add n m heard) ∙ after_append edition fresh_of (take n heard) (take m (drop n heard))
      ∙ ap (λ (s : State). after_from edition s (take m (drop n heard))) (a.locks long)

pub ladder : Ladder
ladder edition messages left h far f long on-with =
    let v : List ℕ = heard_from left messages in
    let a = (far_promise edition messages left h).0 far in
    let shown = every_feed_shows edition f in
    let from = from_lock edition v (bits_before_block left) a long in (
      record {
        not_yet = λ m k c.
            ⊎_elim
            (λ later.
            let e : wait left + (m - wait left) ≡ m = omega arith in
            shown.0.not_yet (m - wait left) (omega arith) (rw (← on-with) (ap (λ (s : State). s.time) (sym (rw e at (from (m - wait left)))) ∙ c)))
            (λ sooner. unconfirmed edition v (bits_before_block left) a long m sooner c)
            (le_or_lt (wait left) m);
        then = from (confirmed_after f) ∙ rw on-with shown.0.then;
      },
      omega (arith, shown.1, wait_bounds.most left h),
    )

-- ---- a run that takes as long as any

-- a Monday of a week 1, 00:00
a_monday : Record
a_monday = record { leap = 1; start_day = 1; week = 1; weekday = 1; hour = 0; minute = 0; offset = pos 0 }

a_monday_lem : (edition : Edition) → usable_of edition a_monday ≡ Ok a_monday
unfolding a_monday offset_in_range time_in_range kind_in_range day_in_range in_range says_leap weeks_of usable_of
a_monday_lem Of1984 = refl
a_monday_lem Of1982 = refl

-- what fillers and time blocks are as messages
module _ (edition : Edition) where
  abbrev fills : List ℕ
  fills = block_of 0 (filler edition)

  abbrev filling : Message
  filling = record { code = 0; word = filler edition; code_fits = omega arith; word_fits = in_word edition }

  abbrev telling : (r : Record) → Usable edition r → Message
  telling r u = record { code = 0; word = word_of r; code_fits = omega arith; word_fits = word_fits r u.in_range }

  length_filled : (n : ℕ) → length (flatten (replicate n fills)) ≡ 50 * n
  unfolding flatten
  length_filled zero = omega arith
  length_filled (suc n) = length-append fills (flatten (replicate n fills)) ∙ omega (arith, (written_good 0 (filler edition)).size, length_filled n)

  sent_filled : (n : ℕ) (more : List Message) → sent (replicate n filling ++ more) ≡ flatten (replicate n fills) ++ sent more
  unfolding flatten
  sent_filled zero more = refl
  sent_filled (suc n) more = ap (λ (t : List ℕ). fills ++ t) (sent_filled n more) ∙ sym (append_assoc fills (flatten (replicate n fills)) (sent more))

-- two filler blocks hold no good window far from a start
turned : Edition → ℕ → Bool
turned edition i = not (is_good (read_of (drop (8 + i) (fills edition) ++ take (8 + i) (fills edition))))

none_turned : (edition : Edition) → T (below 36 (turned edition))
unfolding turned value_from remainder_from bits_of body_of block_of read_of
none_turned Of1984 = tt
none_turned Of1982 = tt

module _ (edition : Edition) (u : Usable edition a_monday) (next : Record) (e : minutes_later edition 1 a_monday ≡ Ok next) (v : Usable edition next) where
  abbrev idle : List (List ℕ)
  idle = replicate 29 (fills edition)

  -- twenty-nine fillers, a time block, as many fillers, and the time block of the next minute
  slowest : Feed edition
  slowest =
      let q = quiet edition in
      let hold = missed_hold edition 0 [] idle q in
      record {
        before = idle;
        one = time_block a_monday;
        between = idle;
        two = time_block next;
        more = [];
        told = a_monday;
        next = next;
        few = omega (arith, q.count);
        minute = q.count;
        one_tells = block_usable edition a_monday u;
        two_tells = block_usable edition next v;
        later = is_later edition 1 a_monday next e;
        others_before = q.others;
        others_between = q.others;
        holds_before = hold;
        holds_between = hold;
      }

  -- behind four fillers, the first of which comes without its first bit
  abbrev minute : List Message
  minute = replicate 29 (filling edition) ++ (telling edition next v ∷ [])

  abbrev minutes : List Message
  minutes = replicate 29 (filling edition) ++ (telling edition a_monday u ∷ minute)

  abbrev slow_run : List Message
  slow_run = replicate 4 (filling edition) ++ minutes

  sent_minutes : sent minutes ≡ bits_of_feed slowest
  unfolding slowest
  sent_minutes =
      sent_filled edition 29 (telling edition a_monday u ∷ minute)
      ∙ ap (λ (t : List ℕ). flatten idle ++ (time_block a_monday ++ t)) (sent_filled edition 29 (telling edition next v ∷ []))

  goes_on : drop 199 (heard_from 1 slow_run) ≡ bits_of_feed slowest
  goes_on =
      drop-drop 199 1 (sent slow_run) ∙ ap (drop 200) (sent_filled edition 4 minutes)
      ∙ drop_at (flatten (replicate 4 (fills edition))) (sent minutes) 200 (length_filled edition 4) ∙ sent_minutes

  far : OnlyBlocksFar 1 50 slow_run
  unfolding turned
  far start a b late early h =
      let x : List ℕ = fills edition in
      let d : 8 + (start - 8) ≡ start = omega arith in
      let size = (written_good 0 (filler edition)).size in
      ap (λ (w : List ℕ). is_good (read_of w)) (joint x x (sent (replicate 2 (filling edition) ++ minutes)) start b size size)
      ∙ not_good (drop start x ++ take start x) (rw d at (at_below 36 (turned edition) (none_turned edition) (start - 8) (omega arith)))

  slowest_ladder : LongestLadder edition
  unfolding slowest
  slowest_ladder =
      record {
        messages = slow_run;
        left = 1;
        inside = omega arith;
        far = far;
        feed = slowest;
        long = omega (arith, length-drop 1 (sent slow_run), length_sent slow_run);
        goes_on = goes_on;
        all = refl;
      }

pub longest_ladder : (edition : Edition) → LongestLadder edition
longest_ladder edition =
    let u = (usable_given edition a_monday a_monday (a_monday_lem edition)).1 in
    let later = later_given edition 1 a_monday u in
    slowest_ladder edition u later.0 later.1 later.2

-- its feed takes two minutes
pub two_minutes : TwoMinutes
two_minutes edition =
    let l = longest_ladder edition in
    (l.feed, omega (arith, l.all, (every_feed_shows edition l.feed).1, wait_bounds.most l.left l.inside))
