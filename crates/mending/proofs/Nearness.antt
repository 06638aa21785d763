-- What is handed back is the one good block that is near: two blocks of which one is near the other differ by a burst.
-- Assumes nothing.
use Rattle.refusal.specs.declared.Refusal.{Refusal}
use Rattle.std.specs.Prelude.{Result, Ok, Err}
use mathlib.Core.List.{List, [], ◌++◌}
use mathlib.Core.Logic.{◌⊎◌, inl, inr, ⊎_elim}
use mathlib.Core.Path.{◌≡◌, refl, sym, ap, ◌∙◌, subst}
use Prim.Native.Nat.{ℕ, ◌-◌, ◌<◌}
use native.Mathlib.Decide.{dec_le}
use native.Mathlib.Omega.{arith}
use lib.ListN.{length, take, length-append, length-replicate, get_or-append}
use lib.Seq.{take_at}
use Rattle.refusal.specs.declared.Refusal.TheVariants.{NoSuchChange}
use Rattle.block.specs.Bits.{Bits, bits_of, xors, zeros}
use Rattle.block.specs.Block.{Good}
use Rattle.block.proofs.Inverted.{good_inverted}
use Rattle.block.proofs.Strings.{bits_append, bits_xors, bits_zeros, length_xors, xors_cancel}
use Rattle.detection.specs.Damage.{Changed, weight}
use Rattle.detection.proofs.Places.{changed_before, changed_lt, changed_weight, unchanged}
use Rattle.mending.specs.Changes.{Within, Burst, Makes, First, six_from}
use Rattle.mending.specs.Laws.{changes_of, HandedBack, BlocksHandedBack, NoneNear}
use Rattle.mending.specs.Mending.{refusal_of, place_in, pattern_in, Mends, refused, good, bad, MendsBad, one, none, several, tells}
use Rattle.mending.specs.declared.Change.{Change}
use Rattle.mending.proofs.CutOut.{cut_out}
use Rattle.mending.proofs.Goodness.{xors_none}
use Rattle.mending.proofs.Once.{packing_few}
use Rattle.mending.proofs.OnlyOne.{burst_leaves, makes_left, only_one}

-- a good block that is near is the block itself, or a change makes it
near_good : (s t : List ℕ) → length s ≡ 50 → Bits s → Good t → Within 6 (xors s t) → (t ≡ s) ⊎ Makes s (xors s t)
near_good s t l h g w =
    let e : List ℕ = xors s t in
    let same : length s ≡ length t = l ∙ sym g.size in
    let le : length e ≡ length s = length_xors s t same in
    let he : Bits e = bits_xors s t h g.bits in
    let back : xors s e ≡ t = xors_cancel s t same in
    elim (dec_le 1 (weight e)) [
      | yes p ↦ inr (record { burst = record { pattern = record { size = le ∙ l; bits = he; some = p }; within = w }; good = subst Good (sym back) g })
      | no p ↦ inl (sym back ∙ ap (xors s) (unchanged e he (λ k c. omega (arith, changed_weight e k c)) ∙ ap zeros le) ∙ xors_none s)
    ]

-- place and pattern tell all changes
told : (e : List ℕ) (k : ℕ) → Burst 6 e → First e k → e ≡ changes_of k (six_from k e)
told e k b f =
    let size : length e ≡ 50 = b.pattern.size in
    let long : length (e ++ zeros 5) ≡ 55 = omega (arith, length-append e (zeros 5)) in
    let inside : k < length e = changed_lt e k f.changed in
    sym (take_at e (zeros 5) 50 size)
    ∙ ap (take 50)
    (cut_out (e ++ zeros 5) k (49 - k) (bits_append e (zeros 5) b.pattern.bits (bits_zeros 5)) (omega arith)
    (λ j c.
    let d : Changed e j = sym (get_or-append e (zeros 5) 0 j (changed_before e 5 j c)) ∙ c in
    record { from = f.least j d; to = omega (arith, (b.within.among j d).to, (b.within.among k f.changed).from) }))

-- where no change makes a bad block good, no good block is near
far : (s : List ℕ) → length s ≡ 50 → Bits s → (Good s → ⊥) → ((e : List ℕ) → Makes s e → ⊥) → (t : List ℕ) → Good t → Within 6 (xors s t) → ⊥
far s l h f n t g w = ⊎_elim (λ e. f (subst Good e g)) (λ m. n (xors s t) m) (near_good s t l h g w)

bad_none : (s : List ℕ) → length s ≡ 50 → Bits s → (Good s → ⊥) → (x : Result Change Refusal) (after : List ℕ) → MendsBad s x after → refusal_of x ≡ 15
    → (after ≡ s) × ((t : List ℕ) → Good t → Within 6 (xors s t) → ⊥)
bad_none s l h f x after (one e m u k i) z = absurd (omega arith)
bad_none s l h f x after (none n) z = (refl, far s l h f n)
bad_none s l h f x after (several d e m o n) z = absurd (omega arith)

none_with_15 : (s : List ℕ) (x : Result Change Refusal) (after : List ℕ) → Mends s x after → refusal_of x ≡ 15 → (after ≡ s) × ((t : List ℕ) → Good t → Within 6 (xors s t) → ⊥)
none_with_15 s x after (refused why e) z = absurd (omega (arith, packing_few s, ap refusal_of e))
none_with_15 s x after (good g) z = absurd (omega arith)
none_with_15 s x after (bad l h f p) z = bad_none s l h f x after p z

pub none_near : NoneNear
none_near s after p = none_with_15 s (Err NoSuchChange) after p refl

-- ---- handed back

abbrev hands_back : Result Change Refusal → ℕ
hands_back (Ok change) = 1
hands_back (Err why) = 0

as_it_came : (s : List ℕ) → Good s → HandedBack s s 0 0
unfolding bits_of
as_it_came s g =
    let same : xors s s ≡ zeros 50 = ap (xors s) (sym (xors_none s)) ∙ xors_cancel s (zeros (length s)) (sym (length-replicate (length s) 0)) ∙ ap zeros g.size in
    record {
      good = g;
      near = record { first = 0; among = λ k c. absurd (omega (arith, changed_before [] 50 k (rw same at c))) };
      only = λ t h w. ⊎_elim (λ e. e)
          (λ m. absurd (burst_leaves (xors s t) m.burst (makes_left s g.size g.bits (xors s t) m ∙ (good_inverted s g).1)))
          (near_good s t g.size g.bits h w);
      difference = same;
      again = good g;
    }

module _ (s : List ℕ) (l : length s ≡ 50) (h : Bits s) (f : Good s → ⊥) where
  changed : (e : List ℕ) (k : ℕ) → Makes s e → First e k → HandedBack s (xors s e) k (six_from k e)
  changed e k m i =
      let off : xors s (xors s e) ≡ e = xors_cancel s e (l ∙ sym m.burst.pattern.size) in
      record {
        good = m.good;
        near = subst (Within 6) (sym off) m.burst.within;
        only = λ t g w. ⊎_elim (λ z. absurd (f (subst Good z g)))
            (λ n. sym (xors_cancel s t (l ∙ sym g.size)) ∙ ap (xors s) (only_one s l h (xors s t) e n m))
            (near_good s t l h g w);
        difference = off ∙ told e k m.burst i;
        again = good m.good;
      }

  bad_handed : (x : Result Change Refusal) (after : List ℕ) → MendsBad s x after → hands_back x ≡ 1 → HandedBack s after (place_in x) (pattern_in x)
  bad_handed x after (one e m u k i) z = changed e k m i
  bad_handed x after (none n) z = absurd (omega arith)
  bad_handed x after (several d e m o n) z = absurd (omega arith)

handed : (s : List ℕ) (x : Result Change Refusal) (after : List ℕ) → Mends s x after → hands_back x ≡ 1 → HandedBack s after (place_in x) (pattern_in x)
handed s x after (refused why e) z = absurd (omega arith)
handed s x after (good g) z = as_it_came s g
handed s x after (bad l h f p) z = bad_handed s l h f x after p z

pub blocks_handed_back : BlocksHandedBack
blocks_handed_back s after place pattern p = handed s (tells place pattern) after p refl
