-- Where a trailer points: by which test it does not fit, and that what it points at lies before it.
-- Assumes nothing.
use Rattle.std.proofs.Common.{◌≡◌, ℕ, ◌+◌, ◌-◌, ◌*◌, ◌%◌, ◌≤◌, ◌<◌, Bool, true, false, ◌&&◌, eqb, ltb, leb, List, length, take, drop, Result, Ok, Err, refl, sym, ap, ◌∙◌, arith, lt-ltb, le-ltb, le-leb, eq-eqb, ne_eqb, leb-true, ltb-true, eqb-true}
use borrow.Author.Tests.{lt-leb}
use mathlib.Core.Bool.{and-eq-true_iff}
use Rattle.refusal.specs.declared.Refusal.{Refusal}
use Rattle.refusal.specs.declared.Refusal.TheVariants.{WrongTrailer}
use Rattle.journal.specs.Order.{verdict_from, checked_of}
use Rattle.journal.specs.Salvage.{whole_entries}
use Rattle.journal.specs.Trailer.{offset_in, count_in, trailer_fits, pointed_of, judged, entries_there, if_sound, wanted_of, says_of}
use Rattle.journal.specs.declared.Checked.{Checked}
use Rattle.journal.specs.declared.Wanted.{Wanted}
use Rattle.journal.proofs.Sixteens.{entries_part}

module _ (s : List ℕ) where
  pub no_bytes : length s ≡ 0 → Err WrongTrailer ≡ pointed_of s
  unfolding pointed_of trailer_fits
  no_bytes h = rw (le-ltb 0 (length s) (omega arith))

  pub no_sixteens : 0 < length s → (length s % 16 ≡ 0 → ⊥) → Err WrongTrailer ≡ pointed_of s
  unfolding pointed_of trailer_fits
  no_sixteens h d = rw (lt-ltb 0 (length s) h, ne_eqb (length s % 16) 0 d)

-- an offset and a number that were read
module _ (s : List ℕ) (h : 0 < length s) (d : length s % 16 ≡ 0) {offset count : ℕ} (o : offset ≡ offset_in s) (n : count ≡ count_in s) where
  pub no_entry : (offset % 16 ≡ 0 → ⊥) → Err WrongTrailer ≡ pointed_of s
  unfolding pointed_of trailer_fits
  no_entry e = rw (lt-ltb 0 (length s) h, eq-eqb (length s % 16) 0 d, ne_eqb (offset_in s % 16) 0 (rw o at e))

  pub too_far : offset % 16 ≡ 0 → length s - 16 < offset + 16 * count → Err WrongTrailer ≡ pointed_of s
  unfolding pointed_of trailer_fits
  too_far e f =
      rw (lt-ltb 0 (length s) h, eq-eqb (length s % 16) 0 d, eq-eqb (offset_in s % 16) 0 (rw o at e), lt-leb (offset_in s + 16 * count_in s) (length s - 16) (rw (o, n) at f))

  pub pointed : offset % 16 ≡ 0 → offset + 16 * count ≤ length s - 16 → Ok (record { first = offset; count = count }) ≡ pointed_of s
  unfolding pointed_of trailer_fits
  pointed e f =
      rw (o, n, lt-ltb 0 (length s) h, eq-eqb (length s % 16) 0 d, eq-eqb (offset_in s % 16) 0 (rw o at e), le-leb (offset_in s + 16 * count_in s) (length s - 16) (rw (o, n) at f))

-- the entries end at or before the trailer
fit_inside : (s : List ℕ) → trailer_fits s ≡ true → offset_in s + 16 * count_in s + 16 ≤ length s
unfolding trailer_fits
fit_inside s e =
    let a = (and-eq-true_iff (ltb 0 (length s)) (eqb (length s % 16) 0 && (eqb (offset_in s % 16) 0 && leb (offset_in s + 16 * count_in s) (length s - 16)))).0 e in
    let b = (and-eq-true_iff (eqb (length s % 16) 0) (eqb (offset_in s % 16) 0 && leb (offset_in s + 16 * count_in s) (length s - 16))).0 a.1 in
    let c = (and-eq-true_iff (eqb (offset_in s % 16) 0) (leb (offset_in s + 16 * count_in s) (length s - 16))).0 b.1 in
    omega (arith, ltb-true 0 (length s) a.0, eqb-true (length s % 16) 0 b.0, leb-true (offset_in s + 16 * count_in s) (length s - 16) c.1)

module _ (s : List ℕ) (w : Wanted) where
  pub pointed_inside : pointed_of s ≡ Ok w → w.first + 16 * w.count + 16 ≤ length s
  unfolding pointed_of
  pointed_inside p = go (trailer_fits s) refl
    where
      go : (t : Bool) → trailer_fits s ≡ t → w.first + 16 * w.count + 16 ≤ length s
      go true e =
          let q : Ok w ≡ Ok (record { first = offset_in s; count = count_in s }) = sym p ∙ rw e in
          let is : w ≡ record { first = offset_in s; count = count_in s } = cc in
          rw is (fit_inside s e)
      go false e = let q : Ok w ≡ Err WrongTrailer = sym p ∙ rw e in cc

-- the verdict on what lies there
pub verdict_there : (s : List ℕ) (w : Wanted) → w.first + 16 * w.count ≤ length s → {checked : Checked} → checked ≡ checked_of (whole_entries (take (w.first + 16 * w.count - w.first) (drop w.first s)))
    → checked.verdict ≡ verdict_from 0 (entries_there s w)
unfolding checked_of
verdict_there s w h is = ap (λ (c : Checked). c.verdict) is ∙ ap (verdict_from 0) (entries_part s w.first w.count h)

-- what is pointed at is wanted where it is sound
module _ (s : List ℕ) (w : Wanted) (p : pointed_of s ≡ Ok w) where
  by_verdict : wanted_of s ≡ judged (verdict_from 0 (entries_there s w)) w
  unfolding wanted_of
  by_verdict = rw p

  pub sound_wanted : verdict_from 0 (entries_there s w) ≡ Ok tt → Ok w ≡ wanted_of s
  sound_wanted v = sym (by_verdict ∙ ap (λ (t : Result (Unit {0}) Refusal). judged t w) v)

  pub faulty_refused : {why : Refusal} → verdict_from 0 (entries_there s w) ≡ Err why → Err why ≡ wanted_of s
  faulty_refused v = sym (by_verdict ∙ ap (λ (t : Result (Unit {0}) Refusal). judged t w) v)

pub refused_too : (s : List ℕ) {why : Refusal} → pointed_of s ≡ Err why → Err why ≡ wanted_of s
unfolding wanted_of
refused_too s p = rw p

-- what is wanted was pointed at
module _ (s : List ℕ) (w : Wanted) (is : wanted_of s ≡ Ok w) where
  pub was_pointed : pointed_of s ≡ Ok w
  unfolding wanted_of
  was_pointed = go (pointed_of s) is
    where
      judge : (v : Result (Unit {0}) Refusal) (x : Wanted) → judged v x ≡ Ok w → ◌≡◌ {A = Result Wanted Refusal} (Ok x) (Ok w)
      judge (Ok sound) x e = e
      judge (Err why) x e = cc

      go : (x : Result Wanted Refusal) → if_sound s x ≡ Ok w → x ≡ Ok w
      go (Ok x) e = judge (verdict_from 0 (entries_there s x)) x e
      go (Err why) e = e

  pub wanted_inside : w.first + 16 * w.count + 16 ≤ length s
  wanted_inside = pointed_inside s w was_pointed

  pub wanted_says : says_of s ≡ Ok (entries_there s w)
  unfolding says_of
  wanted_says = rw is

pub refused_says : (s : List ℕ) {why : Refusal} → wanted_of s ≡ Err why → says_of s ≡ Err why
unfolding says_of
refused_says s is = rw is
