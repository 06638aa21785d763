-- A run that ends before its last bit: what it feeds are the first of the bits, before the last of them it would have gone on, and
-- where bits are left it does not go on behind the last one fed. What is left goes on from there, by `together`.
-- Assumes nothing.
use Prim.Native.Nat.{ℕ, zero, suc, ◌+◌, ◌≤◌, ◌<◌}
use native.Mathlib.Nat.{zero-add}
use native.Mathlib.Omega.{arith}
use mathlib.Core.Path.{◌≡◌, refl, sym, ap, ◌∙◌}
use mathlib.Core.Bool.{Bool, true, false, cond, not, and-eq-true_iff}
use mathlib.Core.List.{List, [], ◌∷◌}
use borrow.Author.Tests.{eqb-true, ltb-false, lt-ltb, le-ltb}
use lib.Dec.{eqb, ltb}
use lib.ListN.{length, take, length-take}
use Rattle.block.specs.Bits.{Bits}
use Rattle.block.proofs.Strings.{bits_take}
use Rattle.refusal.specs.declared.Refusal.TheVariants.{RunTooLong, Improper}
use Rattle.record.specs.declared.Edition.{Edition}
use Rattle.timekeeping.proofs.Choices.{cond_elim}
use Rattle.locking.specs.declared.Blocks.{Blocks}
use Rattle.locking.specs.declared.Lock.{Lock}
use Rattle.locking.specs.Locks.{locked}
use Rattle.locking.specs.Modes.{no_blocks}
use Rattle.receiver.specs.declared.PackedState.{PackedState}
use Rattle.receiver.specs.declared.State.{State}
use Rattle.receiver.specs.declared.Stretch.{Stretch}
use Rattle.receiver.specs.declared.Until.{Until}
use Rattle.receiver.specs.declared.Until.TheVariants.{LastBit, LockChange, AnyChange}
use Rattle.receiver.specs.States.{lock_in}
use Rattle.receiver.specs.Steps.{Step, step_of}
use Rattle.receiver.specs.Runs.{plus, run_from, run_of}
use Rattle.receiver.specs.History.{bits_before}
use Rattle.receiver.specs.Packed.{unpacked, packed_proper, packed_ran, run_packed}
use Rattle.receiver.specs.Changes.{same_lock, runs_on, up_to, with_fed, stretch_from, refused_stretch, stretch_of}
use Rattle.receiver.proofs.Together.{from_bits, run_is}
use Rattle.receiver.proofs.Running.{runs_same}
use Rattle.receiver.proofs.Layouts.{proper_unpacked}

-- what was locked the same way goes on the same way
same_on : (a b c : ℕ) → same_lock a b ≡ true → same_lock a c ≡ same_lock b c
unfolding same_lock
same_on a b c = by (eqb a locked) (eqb b locked) (eqb c locked)
  where
    by : (a b c : Bool) → cond a b (not b) ≡ true → cond a c (not c) ≡ cond b c (not c)
    by true true c e = refl
    by true false c e = cc
    by false true c e = cc
    by false false c e = refl

-- where a run goes on behind a bit, the lock after it serves for the one before it
pub runs_on_lem : (until : Until) (a b c : Lock) → runs_on until a b ≡ true → runs_on until a c ≡ runs_on until b c
unfolding runs_on
runs_on_lem LastBit a b c e = refl
runs_on_lem LockChange a b c e = same_on a.mode b.mode c.mode e
runs_on_lem AnyChange a b c e =
    let both = (and-eq-true_iff (same_lock a.mode b.mode) _).0 e in
    rw (same_on a.mode b.mode c.mode both.0, eqb-true a.time.kind b.time.kind both.1)

module _ (edition : Edition) where
  -- ---- a run that is not refused

  -- its first bit is one
  first_bit : (b : ℕ) (bs : List ℕ) (blocks : Blocks) (passed : ℕ) (s : State) → (run_from edition (b ∷ bs) blocks passed s).counts.refusal ≡ 0 → ltb b 2 ≡ true
  unfolding run_from
  first_bit b bs blocks passed s e = by (ltb b 2) refl
    where
      by : (bit : Bool) → ltb b 2 ≡ bit → bit ≡ true
      by true k = refl
      by false k = let z : ◌≡◌ {A = ℕ} 1 0 = rw k at e in absurd (omega arith)

  -- and so are all
  pub all_before : (xs : List ℕ) (blocks : Blocks) (passed : ℕ) (s : State) → (run_from edition xs blocks passed s).counts.refusal ≡ 0 → bits_before xs ≡ xs
  unfolding run_from bits_before
  all_before [] blocks passed s e = refl
  all_before (b ∷ bs) blocks passed s e =
      let bit = first_bit b bs blocks passed s e in
      rw bit (ap (λ (l : List ℕ). b ∷ l) (all_before bs _ _ (step_of edition s b).next (rw bit at e)))

  -- ---- the bits up to the end

  module _ (until : Until) where
    pub up_to_length : (s : State) (bs : List ℕ) → length (up_to edition until s bs) ≤ length bs
    unfolding up_to
    up_to_length s [] = omega arith
    up_to_length s (b ∷ bs) =
        let t : State = (step_of edition s b).next in
        cond_elim (λ (l : List ℕ). length (b ∷ l) ≤ length (b ∷ bs)) (runs_on until (lock_in s) (lock_in t)) (λ _. omega (arith, up_to_length t bs)) (λ _. omega arith)

    -- where there is a bit, one is among them
    pub up_to_some : (s : State) (bs : List ℕ) → 0 < length bs → 0 < length (up_to edition until s bs)
    unfolding up_to
    up_to_some s [] h = absurd (omega arith)
    up_to_some s (b ∷ bs) h = omega arith

    pub up_to_first : (s : State) (bs : List ℕ) → take (length (up_to edition until s bs)) bs ≡ up_to edition until s bs
    unfolding up_to
    up_to_first s [] = refl
    up_to_first s (b ∷ bs) =
        let t : State = (step_of edition s b).next in
        cond_elim (λ (l : List ℕ). take (length (b ∷ l)) (b ∷ bs) ≡ b ∷ l) (runs_on until (lock_in s) (lock_in t)) (λ _. ap (λ (l : List ℕ). b ∷ l) (up_to_first t bs)) (λ _. refl)

    pub up_to_bits : (s : State) (bs : List ℕ) → Bits bs → Bits (up_to edition until s bs)
    up_to_bits s bs h = rw (up_to_first s bs) at (bits_take (length (up_to edition until s bs)) bs h)

  up_to_last : (s : State) (bs : List ℕ) → up_to edition LastBit s bs ≡ bs
  unfolding up_to runs_on
  up_to_last s [] = refl
  up_to_last s (b ∷ bs) = ap (λ (l : List ℕ). b ∷ l) (up_to_last (step_of edition s b).next bs)

  -- ---- the three answers

  -- a run within the limit, from a proper state
  pub stretch_is : (until : Until) (p : PackedState) (bs : List ℕ) → length bs ≤ 65536 → packed_proper edition p ≡ true
      → stretch_of edition until p bs ≡ stretch_from edition (up_to edition until (unpacked p) bs) 0 no_blocks 0 (unpacked p)
  unfolding stretch_of
  stretch_is until p bs h e =
      let s : State = unpacked p in
      rw (zero-add, le-ltb 65536 (length bs) h, e, run_is edition s (up_to edition until s bs) (omega (arith, up_to_length until s bs)) (proper_unpacked edition p e).proper)

  -- refused with 9 or with 10, or it is such a run
  stretch_elim : (P : Stretch → Type 0) (until : Until) (p : PackedState) (bs : List ℕ) → P (refused_stretch RunTooLong p) → P (refused_stretch Improper p)
      → (length bs ≤ 65536 → packed_proper edition p ≡ true → P (stretch_of edition until p bs)) → P (stretch_of edition until p bs)
  unfolding stretch_of
  stretch_elim P until p bs long improper taken =
      by (ltb 65536 (length bs)) (packed_proper edition p) refl refl
    where
      by : (a b : Bool) → ltb 65536 (length bs) ≡ a → packed_proper edition p ≡ b → P (stretch_of edition until p bs)
      by true b e f = rw e long
      by false false e f = rw (e, f) improper
      by false true e f = taken (ltb-false 65536 (length bs) e) f

  -- a run that ends with its last bit is the run
  pub all_run : (p : PackedState) (bs : List ℕ) → (stretch_of edition LastBit p bs).ran ≡ run_packed edition p bs
  unfolding stretch_of run_packed
  all_run p bs = by (ltb 65536 (length bs)) (packed_proper edition p) refl refl
    where
      by : (long proper : Bool) → ltb 65536 (length bs) ≡ long → packed_proper edition p ≡ proper → (stretch_of edition LastBit p bs).ran ≡ run_packed edition p bs
      by true proper e f = rw e
      by false true e f = rw (e, f, up_to_last (unpacked p) bs)
      by false false e f = rw (e, f)

  -- ---- where it ends

  module _ (until : Until) where
    -- a bit that is fed with others behind it is one, and the run goes on behind it
    module _ (s : State) (b : ℕ) (bs : List ℕ) where
      fed_on : (n : ℕ) → suc n < length (bits_before (up_to edition until s (b ∷ bs)))
          → (ltb b 2 ≡ true) × (runs_on until (lock_in s) (lock_in (step_of edition s b).next) ≡ true) × (n < length (bits_before (up_to edition until (step_of edition s b).next bs)))
      unfolding up_to bits_before
      fed_on n = by (ltb b 2) (runs_on until (lock_in s) (lock_in (step_of edition s b).next))
        where
          by : (bit on : Bool) → suc n < length (cond bit (b ∷ bits_before (cond on (up_to edition until (step_of edition s b).next bs) [])) [])
              → (bit ≡ true) × (on ≡ true) × (n < length (bits_before (up_to edition until (step_of edition s b).next bs)))
          by true true h = (refl, refl, omega arith)
          by true false h = absurd (omega arith)
          by false on h = absurd (omega arith)

    from_unchanged : (bs : List ℕ) (n : ℕ) (blocks : Blocks) (passed : ℕ) (s : State) → n < length (bits_before (up_to edition until s bs))
        → runs_on until (lock_in s) (lock_in (run_from edition (take n bs) blocks passed s).state) ≡ true
    unfolding run_from up_to bits_before
    from_unchanged [] n blocks passed s h = absurd (omega arith)
    from_unchanged (b ∷ bs) zero blocks passed s h = runs_same until (lock_in s)
    from_unchanged (b ∷ bs) (suc n) blocks passed s h =
        let t : Step = step_of edition s b in
        let on = fed_on s b bs n h in
        rw on.0 (runs_on_lem until (lock_in s) (lock_in t.next) _ on.1 ∙ from_unchanged bs n _ _ t.next on.2)

    -- after any shorter part of the bits fed the run would go on as from the start
    pub unchanged : (p : PackedState) (bs : List ℕ) (n : ℕ) → n < (stretch_of edition until p bs).fed
        → runs_on until (lock_in (unpacked p)) (lock_in (run_of edition (unpacked p) (take n bs)).state) ≡ true
    unchanged p bs n =
        stretch_elim (λ (r : Stretch). n < r.fed → runs_on until (lock_in (unpacked p)) (lock_in (run_of edition (unpacked p) (take n bs)).state) ≡ true) until p bs
        (λ h. absurd (omega arith)) (λ h. absurd (omega arith))
        (λ limit e h.
        rw (run_is edition (unpacked p) (take n bs) (omega (arith, length-take n bs)) (proper_unpacked edition p e).proper)
        (from_unchanged bs n no_blocks 0 (unpacked p) (rw (stretch_is until p bs limit e, zero-add) at h)))

    from_changed : (bs : List ℕ) (blocks : Blocks) (passed : ℕ) (s : State) → (run_from edition (up_to edition until s bs) blocks passed s).counts.refusal ≡ 0
        → length (bits_before (up_to edition until s bs)) < length bs → runs_on until (lock_in s) (lock_in (run_from edition (up_to edition until s bs) blocks passed s).state) ≡ false
    unfolding run_from up_to bits_before
    from_changed [] blocks passed s e h = absurd (omega arith)
    from_changed (b ∷ bs) blocks passed s e h =
        let t : Step = step_of edition s b in
        let on : Bool = runs_on until (lock_in s) (lock_in t.next) in
        let bit = first_bit b (cond on (up_to edition until t.next bs) []) blocks passed s e in
        by bit on refl
        (λ l.
        rw (l, bit)
        (runs_on_lem until (lock_in s) (lock_in t.next) _ l ∙ from_changed bs _ _ t.next (rw (l, bit) at e) (omega (arith, rw (l, bit) at h))))
      where
        by : ltb b 2 ≡ true → (on : Bool) → runs_on until (lock_in s) (lock_in (step_of edition s b).next) ≡ on
            → (runs_on until (lock_in s) (lock_in (step_of edition s b).next) ≡ true → runs_on until (lock_in s) (lock_in (run_from edition (up_to edition until s (b ∷ bs)) blocks passed s).state) ≡ false)
            → runs_on until (lock_in s) (lock_in (run_from edition (up_to edition until s (b ∷ bs)) blocks passed s).state) ≡ false
        by bit true l more = more l
        by bit false l more = rw (l, bit, l)

    -- where fewer bits were fed than given, and none was refused, the run does not go on behind the last one fed
    pub changed : (p : PackedState) (bs : List ℕ) → (stretch_of edition until p bs).ran.counts.refusal ≡ 0 → (stretch_of edition until p bs).fed < length bs
        → runs_on until (lock_in (unpacked p)) (lock_in (unpacked (stretch_of edition until p bs).ran.state)) ≡ false
    changed p bs =
        stretch_elim (λ (r : Stretch). r.ran.counts.refusal ≡ 0 → r.fed < length bs → runs_on until (lock_in (unpacked p)) (lock_in (unpacked r.ran.state)) ≡ false) until p bs
        (λ e. absurd (omega arith)) (λ e. absurd (omega arith))
        (λ limit e. rw (stretch_is until p bs limit e, zero-add) (from_changed bs no_blocks 0 (unpacked p)))

    -- ---- what is fed

    -- where no bit was refused, it is the run of the first bits, as many as were fed
    pub first_run : (p : PackedState) (bs : List ℕ) → (stretch_of edition until p bs).ran.counts.refusal ≡ 0
        → (stretch_of edition until p bs).ran ≡ packed_ran (run_of edition (unpacked p) (take (stretch_of edition until p bs).fed bs))
    first_run p bs =
        let s : State = unpacked p in
        stretch_elim (λ (r : Stretch). r.ran.counts.refusal ≡ 0 → r.ran ≡ packed_ran (run_of edition s (take r.fed bs))) until p bs
        (λ e. absurd (omega arith)) (λ e. absurd (omega arith))
        (λ limit f.
        rw (stretch_is until p bs limit f, zero-add)
        (λ e.
        rw (all_before (up_to edition until s bs) no_blocks 0 s e, up_to_first until s bs)
        (sym (ap packed_ran (run_is edition s (up_to edition until s bs) (omega (arith, up_to_length until s bs)) (proper_unpacked edition p f).proper)))))

    -- bits within the limit, given to a proper state, are not refused: those up to the end are fed, and at least one is
    pub bits_taken : (p : PackedState) (bs : List ℕ) → packed_proper edition p ≡ true → Bits bs → length bs ≤ 65536
        → stretch_of edition until p bs ≡ with_fed (packed_ran (run_from edition (up_to edition until (unpacked p) bs) no_blocks 0 (unpacked p))) (length (up_to edition until (unpacked p) bs))
    bits_taken p bs e h limit =
        let s : State = unpacked p in
        let taken = from_bits edition (up_to edition until s bs) no_blocks 0 s (up_to_bits until s bs h) in
        rw (stretch_is until p bs limit e, zero-add, all_before (up_to edition until s bs) no_blocks 0 s taken)

    -- the bits before the first that is none, of those up to the end
    pub before_up_to : (s : State) (bs : List ℕ) → bits_before (up_to edition until s bs) ≡ up_to edition until s (bits_before bs)
    unfolding up_to bits_before
    before_up_to s [] = refl
    before_up_to s (b ∷ bs) = by (ltb b 2) refl (runs_on until (lock_in s) (lock_in (step_of edition s b).next)) refl (before_up_to (step_of edition s b).next bs)
      where
        by : (bit : Bool) → ltb b 2 ≡ bit → (on : Bool) → runs_on until (lock_in s) (lock_in (step_of edition s b).next) ≡ on
            → bits_before (up_to edition until (step_of edition s b).next bs) ≡ up_to edition until (step_of edition s b).next (bits_before bs)
            → bits_before (up_to edition until s (b ∷ bs)) ≡ up_to edition until s (bits_before (b ∷ bs))
        by true e true o more = rw (e, o) (ap (λ (l : List ℕ). b ∷ l) more)
        by true e false o more = rw (e, o)
        by false e on o more = rw e

    -- where a value that is none ends the run up to the end, it ends the run of all the bits in the same way
    abbrev Alike : List ℕ → Blocks → ℕ → State → Type 0
    Alike bs blocks passed s =
        ((run_from edition (up_to edition until s bs) blocks passed s).counts.refusal ≡ 0 → ⊥)
        → (run_from edition (up_to edition until s bs) blocks passed s ≡ run_from edition bs blocks passed s) × (bits_before (up_to edition until s bs) ≡ bits_before bs)

    pub ends_alike : (bs : List ℕ) (blocks : Blocks) (passed : ℕ) (s : State) → Alike bs blocks passed s
    unfolding run_from up_to bits_before
    ends_alike [] blocks passed s = λ h. absurd (h refl)
    ends_alike (b ∷ bs) blocks passed s =
        let t : Step = step_of edition s b in
        by (ltb b 2) refl (runs_on until (lock_in s) (lock_in t.next)) refl (ends_alike bs (plus blocks t.blocks) (passed + t.passed) t.next)
      where
        by : (bit : Bool) → ltb b 2 ≡ bit → (on : Bool) → runs_on until (lock_in s) (lock_in (step_of edition s b).next) ≡ on
            → Alike bs (plus blocks (step_of edition s b).blocks) (passed + (step_of edition s b).passed) (step_of edition s b).next
            → Alike (b ∷ bs) blocks passed s
        by true e true o more = rw (e, o) (λ h. let on = more h in (on.0, ap (λ (l : List ℕ). b ∷ l) on.1))
        by true e false o more = rw (e, o) (λ h. absurd (h refl))
        by false e on o more = rw e (λ _. (refl, refl))

    pub one_fed : (p : PackedState) (b : ℕ) (bs : List ℕ) → packed_proper edition p ≡ true → b < 2 → length (b ∷ bs) ≤ 65536 → 1 ≤ (stretch_of edition until p (b ∷ bs)).fed
    unfolding up_to bits_before
    one_fed p b bs e h limit = rw (stretch_is until p (b ∷ bs) limit e, lt-ltb b 2 h) (omega arith)
