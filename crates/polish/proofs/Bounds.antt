-- What a fitting time says of its fields.
-- Assumes nothing.
use borrow.Author.Tests.{ltb-true, lt-ltb}
use mathlib.Core.Bool.{Bool, true, false, ◌&&◌, and-eq-true_iff, and-true}
use mathlib.Core.Path.{◌≡◌, refl, sym, ap, ◌∙◌}
use Prim.Native.Nat.{ℕ, ◌<◌, ◌^◌}
use lib.Dec.{ltb}
use mathlib.Core.List.{List}
use lib.ListN.{get_or}
use Rattle.std.specs.List.{All, list_all}
use Rattle.std.proofs.lemmas.List.Sums.{AllPass-from_list_all, list_all-from_AllPass}
use Rattle.std.proofs.Common.{◌↔◌}
use Rattle.polish.specs.Frame.{flags_of}
use Rattle.polish.specs.Write.{fitting, FieldsFit}
use Rattle.polish.specs.declared.Time.{Time}

-- where a bound and something else hold, the bound does, and the something else
split : (n b : ℕ) (t : Bool) → ltb n b && t ≡ true → (n < b) × (t ≡ true)
split n b t e = (ltb-true n b ((and-eq-true_iff (ltb n b) t).0 e).0, ((and-eq-true_iff (ltb n b) t).0 e).1)

pub bounds : (time : Time) → fitting time ≡ true → FieldsFit time
unfolding fitting
bounds time e =
    let a = split time.periods (2 ^ 30) _ e in
    let b = split time.tz0 2 _ a.1 in
    let c = split time.tz1 2 _ b.1 in
    let d = split time.ls 2 _ c.1 in
    let f = split time.lss 2 _ d.1 in
    let g = split time.tzc 2 _ f.1 in
    let h = split time.sk0 2 _ g.1 in
    record {
      periods = a.0;
      tz0 = b.0;
      tz1 = c.0;
      ls = d.0;
      lss = f.0;
      tzc = g.0;
      sk0 = h.0;
      sk1 = ltb-true time.sk1 2 h.1;
    }

-- flags that a test of all of them was made of
tested : (q : Bool) (flags : List ℕ) → (q ≡ true) ↔ All (λ b. b < 2) flags → q ≡ list_all (λ b. ltb b 2) flags
tested true flags h = sym (list_all-from_AllPass (λ b. ltb b 2) flags (λ k d l. lt-ltb (get_or flags k d) 2 (h.0 refl k d l)))
tested false flags h = by (list_all (λ b. ltb b 2) flags) refl
  where
    by : (p : Bool) → list_all (λ b. ltb b 2) flags ≡ p → false ≡ list_all (λ b. ltb b 2) flags
    by false e = sym e
    by true e = h.1 (λ k d l. ltb-true (get_or flags k d) 2 (AllPass-from_list_all (λ b. ltb b 2) flags e k d l)) ∙ sym e

-- a count and its flags, tested one after the other
pub fits_is : (time : Time) → fitting time ≡ (ltb time.periods (2 ^ 30) && list_all (λ b. ltb b 2) (flags_of time))
unfolding fitting
fits_is time =
    ap (λ (t : Bool). ltb time.periods (2 ^ 30) && (ltb time.tz0 2 && (ltb time.tz1 2 && (ltb time.ls 2 && (ltb time.lss 2 && (ltb time.tzc 2 && (ltb time.sk0 2 && t)))))))
    (sym (and-true (ltb time.sk1 2)))

pub all_fit : (time : Time) (q : Bool) → time.periods < 2 ^ 30 → (q ≡ true) ↔ All (λ b. b < 2) (flags_of time) → q ≡ fitting time
all_fit time q h e = tested q (flags_of time) e ∙ sym (rw (fits_is time, lt-ltb time.periods (2 ^ 30) h))
