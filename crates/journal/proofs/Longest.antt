-- What salvage keeps is the longest run in order: the sound entries rise, and no longer run from the first does.
-- Assumes nothing.
use borrow.Author.Tests.{le-leb, leb-true, lt-ltb, ltb-true}
use mathlib.Core.Bool.{Bool, true, false, cond, ◌&&◌, and-eq-true_iff}
use mathlib.Core.List.{List, [], ◌∷◌}
use mathlib.Core.Path.{◌≡◌, refl, sym, ap, subst}
use Prim.Native.Nat.{ℕ, zero, suc, ◌+◌, ◌/◌, ◌^◌, ◌≤◌}
use native.Mathlib.Omega.{arith}
use lib.Dec.{leb}
use lib.ListN.{length, take, drop}
use Rattle.block.specs.Packed.{fits}
use Rattle.journal.specs.Entries.{entry_of, entries_of}
use Rattle.journal.specs.Laws.{LongestRunKept}
use Rattle.journal.specs.Order.{InOrder, sound_from}
use Rattle.journal.specs.Salvage.{whole_entries, kept_of}
use Rattle.journal.specs.declared.Entry.{Entry}
use Rattle.journal.proofs.Judging.{sound_le}
use Rattle.journal.proofs.Rising.{Rises, rises_in_order, in_order_rises}
use Rattle.journal.proofs.Salvaging.{kept_inside}
use Rattle.journal.proofs.Sixteens.{length_entries}

-- fewer entries of the same bytes are the first of them
fewer : (n m : ℕ) (s : List ℕ) → n ≤ m → take n (entries_of m s) ≡ entries_of n s
unfolding entries_of
fewer zero m s h = refl
fewer (suc n) zero s h = absurd (omega arith)
fewer (suc n) (suc m) s h = ap (λ (es : List Entry). entry_of s ∷ es) (fewer n m (drop 16 s) (omega arith))

sound_rise : (least : ℕ) (es : List Entry) → Rises least (take (sound_from least es) es)
unfolding sound_from
sound_rise least [] = tt
sound_rise least (e ∷ es) = go (leb least e.bit && fits e.block) refl (sound_rise (e.bit + 1) es)
  where
    go : (t : Bool) → leb least e.bit && fits e.block ≡ t → Rises (e.bit + 1) (take (sound_from (e.bit + 1) es) es)
        → Rises least (take (cond t (suc (sound_from (e.bit + 1) es)) 0) (e ∷ es))
    go true p rest =
        let both = (and-eq-true_iff (leb least e.bit) (fits e.block)).0 p in
        (leb-true least e.bit both.0, ltb-true e.block (2 ^ 50) both.1, rest)
    go false p rest = tt

rise_sound : (least : ℕ) (es : List Entry) (n : ℕ) → n ≤ length es → Rises least (take n es) → n ≤ sound_from least es
unfolding sound_from
rise_sound least es zero h r = omega arith
rise_sound least [] (suc n) h r = absurd (omega arith)
rise_sound least (e ∷ es) (suc n) h r =
    let more : n ≤ sound_from (e.bit + 1) es = rise_sound (e.bit + 1) es n (omega arith) r.2 in
    rw (le-leb least e.bit r.0, lt-ltb e.block (2 ^ 50) r.1) (omega arith)

pub longest_run_kept : LongestRunKept
unfolding kept_of
longest_run_kept s =
    let all : ℕ = length s / 16 in
    let n : ℕ = sound_from 0 (whole_entries s) in
    let inner : n ≤ all = omega (arith, sound_le 0 (whole_entries s), length_entries all s) in
    record {
      bytes = refl;
      inside = kept_inside s;
      sound = subst InOrder (fewer n all s inner) (rises_in_order 0 (take n (whole_entries s)) (sound_rise 0 (whole_entries s)));
      longer = λ m h f o.
          let within : m ≤ all = omega arith in
          let rises : Rises 0 (take m (whole_entries s)) = subst (Rises 0) (sym (fewer m all s within)) (in_order_rises (entries_of m s) o) in
          omega (arith, rise_sound 0 (whole_entries s) m (omega (arith, length_entries all s)) rises);
    }
