-- One turn of a run into a watch: a stretch is run up to the first change, what it counts comes to what was counted, and the run goes
-- on behind it, or ends where the stretch was refused.
-- Assumes nothing.
use Prim.Native.Nat.{ℕ, ◌+◌, ◌≤◌, ◌<◌}
use native.Mathlib.Nat.{add_assoc, add-zero, zero-add}
use native.Mathlib.Omega.{arith}
use mathlib.Core.Path.{◌≡◌, refl, sym, ap, ap₂, ◌∙◌}
use mathlib.Core.Bool.{true}
use mathlib.Core.List.{List, [], ◌∷◌, ◌++◌}
use borrow.Author.Tests.{lt-ltb}
use lib.Dec.{ltb}
use lib.ListN.{length, drop, take-append-drop}
use Rattle.block.specs.Bits.{Bits}
use Rattle.record.specs.declared.Edition.{Edition}
use Rattle.timekeeping.proofs.Choices.{cond_elim}
use Rattle.locking.specs.declared.Blocks.{Blocks}
use Rattle.locking.specs.Modes.{no_blocks}
use Rattle.receiver.specs.declared.Counts.{Counts}
use Rattle.receiver.specs.declared.PackedState.{PackedState}
use Rattle.receiver.specs.declared.Ran.{Ran}
use Rattle.receiver.specs.declared.State.{State}
use Rattle.receiver.specs.declared.Stretch.{Stretch}
use Rattle.receiver.specs.declared.Until.TheVariants.{AnyChange}
use Rattle.receiver.specs.Runs.{counts_of, blocks_in, run_from, run_of}
use Rattle.receiver.specs.History.{bits_before}
use Rattle.receiver.specs.Packed.{unpacked, packed_ran, run_packed}
use Rattle.receiver.specs.Changes.{up_to, stretch_from, stretch_of}
use Rattle.receiver.proofs.Adding.{none_plus, plus_none, plus_assoc}
use Rattle.receiver.proofs.Balance.{MadeUp, from_balance}
use Rattle.receiver.proofs.StaysProper.{Proper, room, run_proper}
use Rattle.receiver.proofs.Layouts.{proper_fifty, proper_small, run_unpacked, run_packed_lem}
use Rattle.receiver.proofs.Together.{from_waiting, run_is, together}
use Rattle.receiver.proofs.Changes.{all_before, up_to_length, up_to_some, up_to_first, stretch_is, before_up_to, ends_alike}
use Rattle.receiver.proofs.WholeHistory.{before_bits, from_after}
use Rattle.watch.specs.declared.Watch.{Watch}
use Rattle.watch.specs.Watches.{watch_proper, remembered, watch_after, joined, watched_from}
use Rattle.watch.proofs.Watching.{proper_fits, state_proper, after_proper, after_append, stretch}

-- ---- counts

abbrev pub ran_with : Counts → Watch → Ran Watch
ran_with counts w = record { counts = counts; state = w }

-- a run with more counted before it
abbrev pub behind : Counts → Ran Watch → Ran Watch
behind counts r = ran_with (joined counts r.counts) r.state

-- with other blocks and bits passed over
abbrev recounted : Ran Watch → Blocks → ℕ → Ran Watch
recounted r blocks passed = ran_with (counts_of r.counts.refusal blocks passed r.counts.waiting) r.state

pub nothing_before : (waiting : ℕ) (r : Ran Watch) → behind (counts_of 0 no_blocks 0 waiting) r ≡ r
nothing_before waiting r = ap₂ (recounted r) (none_plus (blocks_in r.counts)) (zero-add r.counts.passed)

pub behind_both : (a b : Counts) (r : Ran Watch) → behind a (behind b r) ≡ behind (joined a b) r
behind_both a b r = sym (ap₂ (recounted r) (plus_assoc (blocks_in a) (blocks_in b) (blocks_in r.counts)) (add_assoc a.passed b.passed r.counts.passed))

-- after the last bit nothing is counted, and as many wait as were counted last
pub at_the_end : (edition : Edition) (w : Watch) (counts : Counts) → watch_proper edition w ≡ true → counts.refusal ≡ 0 → counts.waiting ≡ w.state.waiting
    → behind counts (watched_from edition w []) ≡ ran_with counts w
unfolding run_from watch_after bits_before
at_the_end edition w counts e none waiting =
    let s : State = unpacked w.state in
    let nothing : (run_packed edition w.state []).counts ≡ counts_of 0 no_blocks 0 w.state.waiting =
    ap (λ (r : Ran PackedState). r.counts) (run_unpacked edition w.state (proper_small edition w.state (proper_fits edition w e).0) [])
    ∙ ap (λ (r : Ran State). r.counts) (run_is edition s [] (omega arith) (state_proper edition w e).proper) in
    let same : joined counts (counts_of 0 no_blocks 0 w.state.waiting) ≡ counts =
    ap₂ (λ (b : Blocks) (p : ℕ). counts_of 0 b p w.state.waiting) (plus_none (blocks_in counts)) (add-zero counts.passed)
    ∙ ap₂ (λ (r n : ℕ). counts_of r (blocks_in counts) counts.passed n) (sym none) (sym waiting) in
    ap (λ (c : Counts). ran_with (joined counts c) w) nothing ∙ ap (λ (c : Counts). ran_with c w) same

pub few_wait : (edition : Edition) (w : Watch) → watch_proper edition w ≡ true → w.state.waiting < 50
few_wait edition w e = room edition (unpacked w.state) (state_proper edition w e).proper

-- ---- one turn

before_append : (xs ys : List ℕ) → Bits xs → bits_before (xs ++ ys) ≡ xs ++ bits_before ys
unfolding bits_before
before_append [] ys h = refl
before_append (x ∷ xs) ys h = rw (lt-ltb x 2 h.0) (ap (λ (l : List ℕ). x ∷ l) (before_append xs ys h.1))

before_length : (bs : List ℕ) → length (bits_before bs) ≤ length bs
unfolding bits_before
before_length [] = omega arith
before_length (b ∷ bs) = cond_elim (λ (l : List ℕ). length l ≤ length (b ∷ bs)) (ltb b 2) (λ _. omega (arith, before_length bs)) (λ _. omega arith)

-- with the bits that are left
module _ (edition : Edition) (w : Watch) (e : watch_proper edition w ≡ true) (bs : List ℕ) (few : length bs ≤ 65536) (r : Stretch) (d : r ≡ stretch_of edition AnyChange w.state bs) where
  abbrev s : State
  s = unpacked w.state

  abbrev part : List ℕ
  part = up_to edition AnyChange s bs

  taken : r ≡ stretch_from edition part 0 no_blocks 0 s
  taken = d ∙ stretch_is edition AnyChange w.state bs few (proper_fits edition w e).0

  fed : r.fed ≡ length (bits_before part)
  fed = ap (λ (r : Stretch). r.fed) taken ∙ zero-add (length (bits_before part))

  -- what is remembered at once is remembered bit by bit
  pub turn_watched : remembered w r.ran.state r.fed ≡ watch_after edition w (bits_before part)
  turn_watched =
      rw (fed, ap (λ (r : Stretch). r.ran.state) taken, from_after edition part no_blocks 0 s, before_up_to edition AnyChange s bs)
      (sym (stretch edition w (bits_before bs) (before_bits bs) e))

  pub turn_proper : watch_proper edition (remembered w r.ran.state r.fed) ≡ true
  turn_proper = rw turn_watched (after_proper edition w (bits_before part) (before_bits part) e)

  pub turn_fed : r.fed ≤ length bs
  turn_fed = omega (arith, fed, before_length part, up_to_length edition AnyChange s bs)

  -- the bits that waited and were fed balance with what the stretch counts
  pub turn_balance : MadeUp (w.state.waiting + r.fed) (blocks_in r.ran.counts) r.ran.counts.passed r.ran.state.waiting
  turn_balance =
      rw taken (omega (arith, from_waiting edition part no_blocks 0 s, from_balance edition part no_blocks 0 s (room edition s (state_proper edition w e).proper)))

  pub turn_waiting : r.ran.counts.waiting ≡ r.ran.state.waiting
  turn_waiting = rw taken (from_waiting edition part no_blocks 0 s)

  -- the stretch is the run of its bits
  ran : r.ran ≡ packed_ran (run_of edition s part)
  ran = ap (λ (r : Stretch). r.ran) taken ∙ ap packed_ran (sym (run_is edition s part (omega (arith, few, up_to_length edition AnyChange s bs)) (state_proper edition w e).proper))

  -- where it is not refused, the run goes on behind it
  module _ (sound : r.ran.counts.refusal ≡ 0) where
    all_bits : bits_before part ≡ part
    all_bits = all_before edition part no_blocks 0 s (sym (ap (λ (r : Stretch). r.ran.counts.refusal) taken) ∙ sound)

    are_bits_lem : Bits part
    are_bits_lem = rw all_bits at (before_bits part)

    whole : part ++ drop r.fed bs ≡ bs
    whole = rw (fed, all_bits) (ap (λ (l : List ℕ). l ++ drop (length part) bs) (sym (up_to_first edition AnyChange s bs)) ∙ take-append-drop (length part) bs)

    counted_on : (run_packed edition w.state bs).counts ≡ joined r.ran.counts (run_packed edition r.ran.state (drop r.fed bs)).counts
    counted_on =
        let p = state_proper edition w e in
        let q : Proper edition (run_of edition s part).state = run_proper edition s part p in
        rw (
          run_unpacked edition w.state (proper_small edition w.state (proper_fits edition w e).0) bs,
          ran,
          run_packed_lem edition (run_of edition s part).state (drop r.fed bs) (proper_fifty edition _ q),
        )
        (ap (λ (l : List ℕ). (run_of edition s l).counts) (sym whole) ∙ ap (λ (r : Ran State). r.counts) (together edition s part (drop r.fed bs) p are_bits_lem (rw whole few)))

    watched_on : watch_after edition w (bits_before bs) ≡ watch_after edition (remembered w r.ran.state r.fed) (bits_before (drop r.fed bs))
    watched_on =
        let rest : List ℕ = bits_before (drop r.fed bs) in
        ap (λ (l : List ℕ). watch_after edition w (bits_before l)) (sym whole)
        ∙ ap (watch_after edition w) (before_append part (drop r.fed bs) are_bits_lem ∙ ap (λ (l : List ℕ). l ++ rest) (sym all_bits))
        ∙ after_append edition w (bits_before part) rest
        ∙ ap (λ (v : Watch). watch_after edition v rest) (sym turn_watched)

    pub turn_on : watched_from edition w bs ≡ behind r.ran.counts (watched_from edition (remembered w r.ran.state r.fed) (drop r.fed bs))
    unfolding remembered
    turn_on = ap₂ ran_with counted_on watched_on

    pub turn_some : 0 < length bs → 0 < r.fed
    turn_some h = rw (fed, all_bits) (up_to_some edition AnyChange s bs h)

  -- where it is refused, so is the run
  pub turn_ends : (r.ran.counts.refusal ≡ 0 → ⊥) → watched_from edition w bs ≡ ran_with r.ran.counts (remembered w r.ran.state r.fed)
  turn_ends refused =
      let alike = ends_alike edition AnyChange bs no_blocks 0 s (λ z. refused (ap (λ (r : Stretch). r.ran.counts.refusal) taken ∙ z)) in
      let counts = ap (λ (r : Ran PackedState). r.counts) (run_unpacked edition w.state (proper_small edition w.state (proper_fits edition w e).0) bs) in
      ap₂ ran_with
      (counts ∙ ap (λ (r : Ran State). r.counts) (run_is edition s bs few (state_proper edition w e).proper ∙ sym alike.0) ∙ sym (ap (λ (r : Stretch). r.ran.counts) taken))
      (ap (watch_after edition w) (sym alike.1) ∙ sym turn_watched)
