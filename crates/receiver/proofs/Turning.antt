-- A run bit by bit on the number of the bits that wait, as the loop goes: a bit joins it, and a full window passes its oldest bit
-- over or is judged and used up. Beside the number stands what the circuit makes of it.
-- Assumes nothing.
use Rattle.block.specs.declared.Refused.{Refused}
use Rattle.block.specs.declared.Body.{Body}
use Rattle.std.specs.Prelude.{Result}
use mathlib.Core.Bool.{Bool, true, false, not, ◌&&◌, and-eq-true_iff}
use mathlib.Core.List.{List, ◌∷◌}
use mathlib.Core.Path.{◌≡◌, refl, sym, ap, ◌∙◌}
use Prim.Native.Nat.{ℕ, ◌+◌, ◌-◌, ◌*◌, ◌/◌, ◌%◌, ◌^◌, ◌<◌, ◌≤◌}
use native.Mathlib.Nat.{add-zero, pow-suc}
use native.Mathlib.Numerals.{add-one}
use native.Mathlib.Omega.{arith}
use borrow.Author.Tests.{eqb-true, not-true, not-false}
use lib.Dec.{eqb}
use lib.ListN.{set}
use lib.Pow.{pow_mono}
use Rattle.block.specs.Bits.{bits_of}
use Rattle.block.specs.Division.{step_bit, remainder_from, remainder}
use Rattle.block.specs.Packed.{read_by}
use Rattle.block.specs.Read.{read_of}
use Rattle.block.proofs.Reading.{number_reads}
use Rattle.block.proofs.Stream.{at_the_end, in_front}
use Rattle.record.specs.declared.Edition.{Edition}
use Rattle.locking.specs.declared.Blocks.{Blocks}
use Rattle.locking.specs.declared.Judged.{Judged}
use Rattle.locking.specs.declared.Lock.{Lock}
use Rattle.locking.specs.Locks.{hunting, lock_proper}
use Rattle.locking.specs.Modes.{no_blocks, is_good, passed_over, judged_by}
use Rattle.locking.proofs.Choices.{passes_over, uses_up}
use Rattle.locking.proofs.NoTime.{hunting_fresh}
use Rattle.receiver.specs.declared.PackedState.{PackedState}
use Rattle.receiver.specs.declared.Until.{Until}
use Rattle.receiver.specs.States.{state_of, lock_in}
use Rattle.receiver.specs.Runs.{plus, ended}
use Rattle.receiver.specs.Packed.{packed_of, packed, unpacked, packed_proper, packed_ran}
use Rattle.receiver.specs.Changes.{runs_on, with_fed}
use Rattle.receiver.proofs.Adding.{plus_none}
use Rattle.receiver.proofs.StaysProper.{room, bits_and_lock}
use Rattle.receiver.proofs.Numbers.{places_of, joins, full, passes, used_up, raised_value, lowered, proper_number}
use Rattle.receiver.proofs.Layouts.{proper_unpacked}
use Rattle.receiver.proofs.Running.{going_on, runs_same, on_waits, on_judges, on_ends}

-- ---- the circuit

module _ (w n b : ℕ) (bit : b < 2) where
  pub one_more : n < 2 ^ w → n * 2 + b < 2 ^ (w + 1)
  one_more h = rw (add-one, pow-suc) (omega arith)

  pub has_room : w < 50 → n < 2 ^ w → n * 2 + b < 2 ^ 50
  has_room k h = let e : w + 1 ≤ 50 = omega arith in omega (arith, one_more h, pow_mono e)

  pub turned : (r t : ℕ) → r ≡ remainder (bits_of w n) → t ≡ step_bit r b → t ≡ remainder (bits_of (w + 1) (n * 2 + b))
  turned r t e d = d ∙ ap (λ (q : ℕ). step_bit q b) e ∙ sym (at_the_end w n b bit)

-- where nothing waits the register holds nothing
pub nothing_in : 0 ≡ remainder (bits_of 0 0)
unfolding bits_of remainder_from
nothing_in = refl

-- ---- the start and the end

-- zeros in front of the bits that wait leave nothing
pub begun : (w n r : ℕ) → w < 50 → n < 2 ^ w → r ≡ remainder (bits_of 49 n) → r ≡ remainder (bits_of w n)
begun w n r h k d = let e : 49 - w + w ≡ 49 = omega arith in d ∙ rw e at (in_front (49 - w) w n k)

-- the window put back into the state
pub put_back : (l : Lock) (w n : ℕ) → n < 2 ^ w → packed_of l w (n * 2 ^ (50 - w)) ≡ packed (state_of l w (places_of w n))
put_back l w n h = rw (raised_value w n h)

-- ---- a full window

pub reads : (v left : ℕ) → v < 2 ^ 50 → left ≡ remainder (bits_of 49 v) → read_by v left ≡ read_of (bits_of 50 v)
reads v left h d = ap (read_by v) d ∙ number_reads v h

module _ (edition : Edition) where
  module _ (p : PackedState) (e : packed_proper edition p ≡ true) where
    pub few : p.waiting < 50
    few = room edition (unpacked p) (proper_unpacked edition p e).proper

    in_places : bits_of 50 p.bits ≡ places_of p.waiting (p.bits / 2 ^ (50 - p.waiting))
    in_places =
        let w : ℕ = p.waiting in
        let h : w ≤ 50 = omega (arith, few) in
        let proper = (bits_and_lock edition (unpacked p) (proper_unpacked edition p e).proper).0 in
        lowered w p.bits h (eqb-true (p.bits % 2 ^ (50 - w)) 0 (sym (proper_number w p.bits h) ∙ proper))

    -- the state taken apart and put together
    pub entered : {l : Lock} {w n : ℕ} → l ≡ lock_in (unpacked p) → w ≡ p.waiting → n ≡ p.bits / 2 ^ (50 - p.waiting) → (until : Until) (bits : List ℕ)
        → going_on edition until bits 0 no_blocks 0 (state_of l w (places_of w n)) ≡ going_on edition until bits 0 no_blocks 0 (unpacked p)
    entered el ew en until bits = rw (el, ew, en, ← in_places)

  -- the test for passing over, and what it comes to
  module _ (l : Lock) (w : Result Body Refused) (t : Bool) (e : t ≡ (eqb l.mode hunting && not (is_good w))) where
    pub is_over : lock_proper edition l ≡ true → t ≡ true → passed_over l ≡ judged_by edition l w
    is_over proper k =
        let both = (and-eq-true_iff (eqb l.mode hunting) _).0 (sym e ∙ k) in
        let m : l.mode ≡ hunting = eqb-true l.mode hunting both.0 in
        ap passed_over (hunting_fresh edition l proper m) ∙ sym (passes_over edition l w m (not-true (is_good w) both.1))

    pub not_over : t ≡ false → (judged_by edition l w).passed ≡ 0
    not_over k = uses_up edition l w (λ m. not-false (is_good w) (rw m at (sym e ∙ k)))

  -- ---- one bit

  -- what goes on from the same lock, number and counts is the same
  pub goes_same : (until : Until) (bs : List ℕ) (fed passed : ℕ) {l k : Lock} {w v n m : ℕ} {a b : Blocks} → l ≡ k → w ≡ v → n ≡ m → a ≡ b
      → going_on edition until bs fed a passed (state_of l w (places_of w n)) ≡ going_on edition until bs fed b passed (state_of k v (places_of v m))
  goes_same until bs fed passed el ew en eb = rw (el, ew, en, eb)

  module _ (until : Until) (fed : ℕ) (blocks : Blocks) (passed b : ℕ) (bs : List ℕ) (bit : b < 2) (l : Lock) (w n v : ℕ) (d : v ≡ n * 2 + b) where
    filled : w < 50 → set (places_of w n) w b ≡ places_of (w + 1) v
    filled h = rw d (joins w n b h bit)

    pub more_wait : w < 49
        → going_on edition until (b ∷ bs) fed blocks passed (state_of l w (places_of w n)) ≡ going_on edition until bs (fed + 1) blocks passed (state_of l (w + 1) (places_of (w + 1) v))
    more_wait h =
        on_waits edition until fed blocks passed b bs bit l w (places_of w n) h
        ∙ ap (λ (t : List ℕ). going_on edition until bs (fed + 1) blocks passed (state_of l (w + 1) t)) (filled (omega arith))

    module _ (h : w + 1 ≡ 50) (j : Judged) (e : j ≡ judged_by edition l (read_of (bits_of 50 v))) where
      window : set (places_of w n) w b ≡ bits_of 50 v
      window = filled (omega arith) ∙ ap (λ (k : ℕ). places_of k v) h ∙ full v

      judged : j ≡ judged_by edition l (read_of (set (places_of w n) w b))
      judged = e ∙ sym (ap (λ (t : List ℕ). judged_by edition l (read_of t)) window)

      pub goes_over : j ≡ passed_over l
          → going_on edition until (b ∷ bs) fed blocks passed (state_of l w (places_of w n)) ≡ going_on edition until bs (fed + 1) blocks (passed + 1) (state_of l 49 (places_of 49 (v % 2 ^ 49)))
      goes_over k =
          rw (k, plus_none blocks, window, passes v)
          at (on_judges edition until fed blocks passed b bs bit l w (places_of w n) (omega arith) j judged (rw k (runs_same until l)))

      module _ (k : j.passed ≡ 0) where
        pub goes_on : runs_on until l j.lock ≡ true
            → going_on edition until (b ∷ bs) fed blocks passed (state_of l w (places_of w n))
            ≡ going_on edition until bs (fed + 1) (plus blocks j.blocks) passed (state_of j.lock 0 (places_of 0 0))
        goes_on on =
            rw (k, add-zero passed, ← used_up)
            at (on_judges edition until fed blocks passed b bs bit l w (places_of w n) (omega arith) j judged on)

        pub ends_here : runs_on until l j.lock ≡ false
            → going_on edition until (b ∷ bs) fed blocks passed (state_of l w (places_of w n))
            ≡ with_fed (packed_ran (ended 0 (plus blocks j.blocks) passed (state_of j.lock 0 (places_of 0 0)))) (fed + 1)
        ends_here change =
            rw (k, add-zero passed, ← used_up)
            at (on_ends edition until fed blocks passed b bs bit l w (places_of w n) (omega arith) j judged change)
