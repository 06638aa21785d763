-- What a journal says stands where its trailer points, and is sound.
-- Assumes nothing.
use Rattle.std.proofs.Common.{◌≡◌, Bool, true, false, cond, List, ℕ, Result, Ok, Err, refl, ap, ◌∙◌}
use Rattle.refusal.specs.declared.Refusal.{Refusal}
use Rattle.refusal.specs.declared.Refusal.TheVariants.{WrongTrailer}
use Rattle.journal.specs.Order.{verdict_from}
use Rattle.journal.specs.Trailer.{offset_in, count_in, trailer_fits, pointed_of, judged, entries_there, if_sound, wanted_of, says_in, says_of}
use Rattle.journal.specs.declared.Entry.{Entry}
use Rattle.journal.specs.declared.Wanted.{Wanted}

-- where a trailer points
abbrev pub there : List ℕ → Wanted
there s = record { first = offset_in s; count = count_in s }

pub record Said (s : List ℕ) (es : List Entry) : Type 0 where
  pub pointed : pointed_of s ≡ Ok (there s)
  pub is : es ≡ entries_there s (there s)
  pub sound : verdict_from 0 es ≡ Ok tt

module _ (s : List ℕ) (es : List Entry) where
  by_verdict : pointed_of s ≡ Ok (there s) → (v : Result (Unit {0}) Refusal) → verdict_from 0 (entries_there s (there s)) ≡ v
      → says_in s (judged v (there s)) ≡ Ok es → Said s es
  by_verdict p (Ok tt) v e = let is : es ≡ entries_there s (there s) = cc in record { pointed = p; is = is; sound = ap (verdict_from 0) is ∙ v }
  by_verdict p (Err why) v e = cc

  by_trailer : (t : Bool) → trailer_fits s ≡ t → says_in s (if_sound s (cond t (Ok (there s)) (Err WrongTrailer))) ≡ Ok es → Said s es
  unfolding pointed_of
  by_trailer true f e = by_verdict (rw f) (verdict_from 0 (entries_there s (there s))) refl e
  by_trailer false f e = cc

  pub as_said : says_of s ≡ Ok es → Said s es
  unfolding says_of wanted_of pointed_of
  as_said e = by_trailer (trailer_fits s) refl e
