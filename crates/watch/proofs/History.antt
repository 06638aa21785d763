-- A watch shows its history: with each bit what it remembers and what the history holds change in the same way, so after any runs they
-- are the same.
-- Assumes nothing.
use Prim.Native.Nat.{ℕ, ◌+◌, ◌-◌, ◌*◌, ◌≤◌, ◌<◌, ◌^◌}
use native.Mathlib.Omega.{arith}
use mathlib.Core.Path.{◌≡◌, refl, sym, ap, ap₂, ◌∙◌}
use mathlib.Core.Bool.{Bool, true, false, cond, not, ◌&&◌, and-eq-true_iff}
use mathlib.Core.List.{List, [], ◌∷◌, ◌++◌, append-nil}
use mathlib.Core.Logic.{⊎_elim}
use borrow.Author.Tests.{eqb-true, eqb-false, eq-eqb, ne_eqb, lt-ltb, le-ltb, leb-true}
use lib.Dec.{eqb, leb, ltb}
use lib.ListN.{length}
use lib.Seq.{append_snoc, take_at}
use Rattle.block.specs.Bits.{Bits}
use Rattle.block.proofs.Strings.{not_true}
use Rattle.std.specs.Prelude.{Ok}
use Rattle.record.specs.declared.Edition.{Edition}
use Rattle.timekeeping.specs.Times.{none, candidate, confirmed}
use Rattle.timekeeping.specs.Proper.{time_proper}
use Rattle.timekeeping.proofs.Choices.{cond_elim}
use Rattle.locking.specs.declared.Lock.{Lock}
use Rattle.locking.specs.Locks.{locked}
use Rattle.locking.proofs.Choices.{proper_elim}
use Rattle.receiver.specs.declared.State.{State}
use Rattle.receiver.specs.States.{lock_in, fresh_of}
use Rattle.receiver.specs.Steps.{step_of}
use Rattle.receiver.specs.History.{after_from, after}
use Rattle.receiver.specs.Packed.{packed, unpacked}
use Rattle.receiver.proofs.StaysProper.{room, bits_and_lock, fresh_proper}
use Rattle.receiver.proofs.Layouts.{there_and_back, fresh_packed_lem, proper_fifty}
use Rattle.receiver.proofs.EndOfHistory.{◌▹◌, length_more, first_more, after_more}
use Rattle.receiver.proofs.WholeHistory.{before_bits}
use Rattle.watch.specs.declared.Watch.{Watch}
use Rattle.watch.specs.Watches.{fresh_watch, none_unless, lets_go, since, displaced_after, watch_proper, remembered, watch_next, watch_after, watched_of}
use Rattle.watch.specs.Standing.{standing_with, why_of}
use Rattle.watch.specs.History.{lastly, last_with, lost_lock, dropped_time, made_record, last_loss, drop_since_lock, displacement, standing_after, bits_watched, watched_all, history_of, ShowsHistory, ShowsState}
use Rattle.watch.proofs.Since.{step_held}
use Rattle.watch.proofs.Watching.{is_held_lem, proper_fits, fresh_watch_proper, state_proper, next_proper, next_state}
use Rattle.watch.proofs.Last.{last_more, last_within}

-- ---- one bit, with which n bits were fed

-- the drop since the present lock, by whether it was locked and is, and whether a record was let go
drop_same : (was is goes : Bool) (n lost drop dropped : ℕ) → lost < n → drop < n → none_unless was dropped ≡ true → dropped ≡ cond (ltb lost drop) drop 0
    → cond is (cond goes n dropped) 0 ≡ cond (ltb (cond (was && not is) n lost) (cond (is && goes) n drop)) (cond (is && goes) n drop) 0
drop_same true true true n lost drop dropped h k unless same = rw (lt-ltb lost n h)
drop_same true true false n lost drop dropped h k unless same = same
drop_same true false goes n lost drop dropped h k unless same = rw (le-ltb n drop (omega arith))
drop_same false true true n lost drop dropped h k unless same = rw (lt-ltb lost n h)
drop_same false true false n lost drop dropped h k unless same = same
drop_same false false goes n lost drop dropped h k unless same = sym (eqb-true dropped 0 unless) ∙ same

-- a block ended before this bit: the record has an age, or bits wait
not_now : (age waiting : ℕ) → 0 < 50 * age + waiting → (eqb age 0 && eqb waiting 0) ≡ false
not_now age waiting h = by (eqb age 0) refl
  where
    by : (z : Bool) → eqb age 0 ≡ z → (z && eqb waiting 0) ≡ false
    by true e = ne_eqb waiting 0 (λ n. omega (arith, eqb-true age 0 e, n, h))
    by false e = refl

-- what a watch and the history of its bits hold is the same
record Remembers (edition : Edition) (l : List ℕ) (w : Watch) : Type 0 where
  state : unpacked w.state ≡ after edition l
  proper : watch_proper edition w ≡ true
  fed : w.fed ≡ length l
  lost : w.lost ≡ last_loss edition l
  dropped : w.dropped ≡ drop_since_lock edition l
  displaced : eqb w.state.time candidate ≡ true → w.displaced ≡ displacement edition l

module _ (edition : Edition) (l : List ℕ) (b : ℕ) (bit : b < 2) (w : Watch) (m : Remembers edition l w) where
  abbrev s : State
  s = unpacked w.state

  abbrev t : State
  t = (step_of edition s b).next

  stepped : t ≡ after edition (l ▹ b)
  stepped = ap (λ (s : State). (step_of edition s b).next) m.state ∙ sym (after_more edition l b)

  -- the last of what happens, in the watch's own words
  last : (happens : State → State → Bool) → last_with edition (l ▹ b) happens ≡ cond (happens s t) (w.fed + 1) (last_with edition l happens)
  last happens = last_more edition l b happens ∙ ap₂ (λ (x : Bool) (n : ℕ). cond x (n + 1) (last_with edition l happens)) (sym (ap₂ happens m.state stepped)) (sym m.fed)

  lost_next : (watch_next edition w b).lost ≡ last_loss edition (l ▹ b)
  unfolding remembered
  lost_next = ap (λ (n : ℕ). cond (lost_lock s t) (w.fed + 1) n) m.lost ∙ sym (last lost_lock)

  dropped_next : (watch_next edition w b).dropped ≡ drop_since_lock edition (l ▹ b)
  unfolding remembered
  dropped_next =
      rw (last lost_lock, last dropped_time)
      (drop_same (eqb s.mode locked) (eqb t.mode locked) (lets_go s.time t.time) (w.fed + 1) (last_loss edition l) (last_with edition l dropped_time) w.dropped
      (omega (arith, m.fed, last_within edition l b lost_lock)) (omega (arith, m.fed, last_within edition l b dropped_time)) (proper_fits edition w m.proper).1.drop_unless m.dropped)

  module _ (is : eqb t.time candidate ≡ true) where
    -- the block of the candidate ends with this bit
    made_now : since (packed t) ≡ 0 → displaced_after s.time t.time (w.fed + 1) (since (packed t)) 1 w.displaced ≡ displacement edition (l ▹ b)
    made_now z =
        let made : made_record s t ≡ true = rw (is_held_lem t.time is, eq-eqb t.age 0 (omega arith), eq-eqb t.waiting 0 (omega arith)) in
        let n : last_with edition (l ▹ b) made_record ≡ w.fed + 1 = rw made at (last made_record) in
        let before : w.fed + 1 - 1 ≡ length l = omega (arith, m.fed) in
        let whole : w.fed + 1 - 0 ≡ w.fed + 1 = omega arith in
        rw (is, z, whole, n, before, take_at l (b ∷ []) (length l) refl, ← m.state)

    -- or the candidate was held before it
    made_before : since (packed t) ≡ since (packed s) + 1 → t.time ≡ s.time
        → displaced_after s.time t.time (w.fed + 1) (since (packed t)) 1 w.displaced ≡ displacement edition (l ▹ b)
    made_before old same =
        let made : made_record s t ≡ false = rw (is_held_lem t.time is, not_now t.age t.waiting (omega arith)) in
        let n : last_with edition (l ▹ b) made_record ≡ last_with edition l made_record = rw made at (last made_record) in
        rw (is, le-ltb (since (packed t)) 1 (omega arith), n, first_more edition l b (last_with edition l made_record - 1) (omega (arith, last_within edition l b made_record)))
        (m.displaced (rw (← same) is))

    displaced_next : (watch_next edition w b).displaced ≡ displacement edition (l ▹ b)
    unfolding remembered
    displaced_next = ⊎_elim made_now (λ o. made_before o.0 o.1) (step_held edition s b (room edition s (state_proper edition w m.proper).proper) (is_held_lem t.time is))

  remembers_next : Remembers edition (l ▹ b) (watch_next edition w b)
  unfolding remembered
  remembers_next =
      record {
        state = next_state edition w m.proper b bit ∙ stepped;
        proper = next_proper edition w m.proper b bit;
        fed = ap (λ (n : ℕ). n + 1) m.fed ∙ sym (length_more l b);
        lost = lost_next;
        dropped = dropped_next;
        displaced = displaced_next;
      }

-- ---- all bits, and all runs

-- the last of proper kinds of time that is neither none nor confirmed is a candidate, and only then a displacement is told
standing_same : (mode kind lost dropped a b : ℕ) → kind ≤ confirmed → (eqb kind candidate ≡ true → a ≡ b) → standing_with mode kind lost dropped a ≡ standing_with mode kind lost dropped b
unfolding standing_with
standing_same mode kind lost dropped a b small same = by (eqb kind confirmed) refl (eqb kind none) refl
  where
    by : (sure : Bool) → eqb kind confirmed ≡ sure → (nothing : Bool) → eqb kind none ≡ nothing → standing_with mode kind lost dropped a ≡ standing_with mode kind lost dropped b
    by true e nothing f = rw e
    by false e true f = rw f
    by false e false f = let d : a ≡ b = same (eq-eqb kind candidate (omega (arith, eqb-false kind confirmed e, eqb-false kind none f))) in rw d

module _ (edition : Edition) where
  fresh_remembers : Remembers edition [] fresh_watch
  unfolding lastly after_from
  fresh_remembers =
      record {
        state = ap unpacked fresh_packed_lem ∙ there_and_back fresh_of (proper_fifty edition fresh_of (fresh_proper edition));
        proper = fresh_watch_proper edition;
        fed = refl;
        lost = refl;
        dropped = refl;
        displaced = λ e. absurd (not_true e);
      }

  -- bits behind a history
  remembers_on : (l : List ℕ) (w : Watch) (bs : List ℕ) → Bits bs → Remembers edition l w → Remembers edition (l ++ bs) (watch_after edition w bs)
  unfolding watch_after
  remembers_on l w [] h m = rw append-nil m
  remembers_on l w (b ∷ bs) h m = rw (← append_snoc l b bs) (remembers_on (l ▹ b) (watch_next edition w b) bs h.1 (remembers_next edition l b h.0 w m))

  watched_bits : (fed : ℕ) (bs : List ℕ) → Bits (bits_watched fed bs)
  unfolding bits_watched
  watched_bits fed bs = cond_elim Bits (ltb 65536 (length bs)) (λ _. tt) (λ _. cond_elim Bits (leb (2 ^ 64) (fed + length bs)) (λ _. tt) (λ _. before_bits bs))

  run_watched : (w : Watch) (bs : List ℕ) → watch_proper edition w ≡ true → (watched_of edition w bs).state ≡ watch_after edition w (bits_watched w.fed bs)
  unfolding watched_of bits_watched watch_after
  run_watched w bs e = by (ltb 65536 (length bs)) refl (leb (2 ^ 64) (w.fed + length bs)) refl
    where
      by : (long : Bool) → ltb 65536 (length bs) ≡ long → (past : Bool) → leb (2 ^ 64) (w.fed + length bs) ≡ past
          → (watched_of edition w bs).state ≡ watch_after edition w (bits_watched w.fed bs)
      by true k past f = rw k
      by false k true f = rw (k, f)
      by false k false f = rw (k, f, e)

  all_runs : (l : List ℕ) (w : Watch) (runs : List (List ℕ)) → Remembers edition l w → Remembers edition (history_of l runs) (watched_all edition w runs)
  unfolding watched_all history_of
  all_runs l w [] m = m
  all_runs l w (bs ∷ runs) m =
      let same = run_watched w bs m.proper ∙ ap (λ (n : ℕ). watch_after edition w (bits_watched n bs)) m.fed in
      all_runs (l ++ bits_watched (length l) bs) (watched_of edition w bs).state runs
      (rw same (remembers_on l w (bits_watched (length l) bs) (watched_bits (length l) bs) m))

  -- a proper watch holds one of the three kinds of time
  kind_small : (w : Watch) → watch_proper edition w ≡ true → w.state.time ≤ confirmed
  unfolding time_proper
  kind_small w e =
      proper_elim edition (λ (l : Lock). l.time.kind ≤ confirmed) (lock_in (unpacked w.state)) (bits_and_lock edition (unpacked w.state) (state_proper edition w e).proper).1
      (omega arith) (λ _ _ _. omega arith)
      (λ bad t _.
      cond_elim (λ (x : Bool). x ≡ true → t.kind ≤ confirmed) (eqb t.kind none) (λ z _. omega (arith, eqb-true t.kind none z))
      (λ _ p. leb-true t.kind confirmed ((and-eq-true_iff (leb t.kind confirmed) _).0 p).0))

  -- so its answer is the history's
  shown : (l : List ℕ) (w : Watch) → Remembers edition l w → why_of edition w ≡ Ok (standing_after edition l)
  unfolding why_of
  shown l w m =
      rw (m.proper, ← m.state, ← m.dropped, ← m.lost, standing_same w.state.mode w.state.time w.lost w.dropped _ _ (kind_small w m.proper) m.displaced)

  pub bits_shown : (l : List ℕ) → Bits l → why_of edition (watch_after edition fresh_watch l) ≡ Ok (standing_after edition l)
  bits_shown l h = shown l (watch_after edition fresh_watch l) (remembers_on [] fresh_watch l h fresh_remembers)

pub shows_history : ShowsHistory
shows_history edition runs = shown edition (history_of [] runs) (watched_all edition fresh_watch runs) (all_runs edition [] fresh_watch runs (fresh_remembers edition))

pub shows_state : ShowsState
shows_state edition runs = (all_runs edition [] fresh_watch runs (fresh_remembers edition)).state
