-- The other polarity exchanges the bits that are not doubtful, and so does exchanging the halves of a pair.
-- Assumes nothing.
use borrow.Author.Tests.{lt-ltb, le-ltb, ltb-true, ltb-false, eqb-true, eqb-false, eq-eqb, ne_eqb}
use mathlib.Core.Bool.{Bool, true, false, not, ◌&&◌, ◌||◌, cond, and-eq-true_iff, true≢false, false≢true}
use mathlib.Core.List.{List}
use mathlib.Core.Path.{◌≡◌, refl, sym, ap, ap₂, ◌∙◌}
use Prim.Native.Nat.{ℕ, zero, ◌+◌, ◌*◌, ◌<◌, ◌≤◌}
use native.Mathlib.Omega.{arith}
use lib.Arith.{lt_of_le-ne}
use lib.Dec.{eqb, ltb}
use lib.Ieee.{Float, nan, inf, fin, up, down, below, level, lt, eq, le, neg, of_int}
use lib.IntN.{ℤ}
use lib.ListN.{length, get_or}
use Rattle.std.proofs.lemmas.List.{get_or-map}
use Rattle.halves.specs.Decision.{one, zero, unsure, doubtful, decision_of, bit_of, bits_of}
use Rattle.halves.specs.Laws.{no_pair, PolarityExchanges, turned, other, HalvesExchange}
use Rattle.halves.specs.Readings.{in_range}
use Rattle.halves.specs.declared.Pair.{Pair}
use Rattle.halves.specs.declared.Polarity.{Polarity}
use Rattle.halves.specs.declared.Polarity.TheVariants.{AsItStands, Exchanged}
use Rattle.halves.proofs.Rounding.{either_way}

-- ---- the polarity

-- the bit at a place is that of the pair there
bit_at : (polarity : Polarity) (margin : Float) (ps : List Pair) (k : ℕ) → k < length ps → get_or (bits_of polarity margin ps) k 0 ≡ bit_of polarity (decision_of margin (get_or ps k no_pair))
unfolding bits_of
bit_at polarity margin ps k h = get_or-map _ ps k no_pair 0 h

unclear : (margin : Float) (p : Pair) (polarity : Polarity) → doubtful margin p ≡ true → bit_of polarity (decision_of margin p) ≡ 0
unfolding decision_of
unclear margin p AsItStands h = rw h
unclear margin p Exchanged h = rw h

clear : (margin : Float) (p : Pair) → doubtful margin p ≡ false → bit_of AsItStands (decision_of margin p) + bit_of Exchanged (decision_of margin p) ≡ 1
unfolding decision_of
clear margin p h = rw h (go (lt p.second p.first))
  where
    go : (greater : Bool) → bit_of AsItStands (cond greater one zero) + bit_of Exchanged (cond greater one zero) ≡ 1
    go true = refl
    go false = refl

pub polarity_exchanges : PolarityExchanges
polarity_exchanges margin ps k h =
    record {
      stays = λ d polarity. bit_at polarity margin ps k h ∙ unclear margin (get_or ps k no_pair) polarity d;
      turns = λ d. ap₂ ◌+◌ (bit_at AsItStands margin ps k h) (bit_at Exchanged margin ps k h) ∙ clear margin (get_or ps k no_pair) d;
    }

-- ---- the halves

not_both : (p q : Bool) → (p && q) ≡ false → p ≡ true → q ≡ true → ⊥
not_both p q h a b = false≢true (sym h ∙ (and-eq-true_iff p q).1 (a, b))

strict : (a b : ℕ) → (a ≡ b → ⊥) → ltb a b ≡ not (ltb b a)
strict a b n = go (ltb b a) refl
  where
    go : (t : Bool) → ltb b a ≡ t → ltb a b ≡ not t
    go true h = let l : b < a = ltb-true b a h in le-ltb a b (omega arith)
    go false h = let l : a ≤ b = ltb-false b a h in lt-ltb a b (lt_of_le-ne l n)

-- two numbers that are not equal are in one order or the other
module _ (a b : ℕ) where
  same_sign : (eqb a b && true) ≡ false → a ≡ b → ⊥
  same_sign h e = not_both (eqb a b) true h (eq-eqb a b e) refl

  not_zero : (eqb a b && eqb a 0) ≡ false → 0 < a + b
  not_zero h = go (ltb 0 (a + b)) refl
    where
      go : (t : Bool) → ltb 0 (a + b) ≡ t → 0 < a + b
      go true k = ltb-true 0 (a + b) k
      go false k =
          let l : a + b ≤ 0 = ltb-false 0 (a + b) k in
          absurd (not_both (eqb a b) (eqb a 0) h (eq-eqb a b (omega arith)) (eq-eqb a 0 (omega arith)))

  one_way : (s t : Bool) → level s a t b ≡ false → below t b s a ≡ not (below s a t b)
  one_way true true h = strict a b (same_sign h)
  one_way true false h = rw (lt-ltb 0 (a + b) (not_zero h))
  one_way false true h = lt-ltb 0 (b + a) (omega (arith, not_zero h))
  one_way false false h = strict b a (λ e. same_sign h (sym e))

eqb_comm : (a b : ℕ) → eqb a b ≡ eqb b a
eqb_comm a b = go (eqb a b) refl
  where
    go : (t : Bool) → eqb a b ≡ t → t ≡ eqb b a
    go true h = sym (eq-eqb b a (sym (eqb-true a b h)))
    go false h = sym (ne_eqb b a (λ e. eqb-false a b h (sym e)))

-- where one is zero and equals the other, the other is zero
both_zero : (a b : ℕ) → (eqb a b && eqb a 0) ≡ (eqb b a && eqb b 0)
both_zero a b = go (eqb a b) refl
  where
    go : (t : Bool) → eqb a b ≡ t → (t && eqb a 0) ≡ (eqb b a && eqb b 0)
    go true h = rw (← eqb_comm a b, h) (ap (λ (n : ℕ). eqb n 0) (eqb-true a b h))
    go false h = rw (← eqb_comm a b, h)

level_comm : (s t : Bool) (a b : ℕ) → level s a t b ≡ level t b s a
level_comm true true a b = ap (λ (x : Bool). x && true) (eqb_comm a b)
level_comm true false a b = both_zero a b
level_comm false true a b = both_zero a b
level_comm false false a b = ap (λ (x : Bool). x && true) (eqb_comm a b)

-- what is said of two finite numbers holds of two readings in range
in_range_finite : (P : Float → Type 0) → ((s : Bool) (m : ℕ) (e : ℤ) → P (fin s m e)) → (x : Float) → in_range x ≡ true → P x
unfolding in_range le lt eq neg of_int
in_range_finite P f nan h = absurd (false≢true h)
in_range_finite P f (inf true) h = absurd (false≢true h)
in_range_finite P f (inf false) h = absurd (false≢true h)
in_range_finite P f (fin s m e) h = f s m e

module _ (margin : Float) (s t : Bool) (m n : ℕ) (e d : ℤ) where
  abbrev forth : Pair
  forth = record { first = fin s m e; second = fin t n d }

  abbrev back : Pair
  back = turned forth

  same_doubt : doubtful margin back ≡ doubtful margin forth
  unfolding doubtful eq
  same_doubt =
      ap₂ ◌||◌ (level_comm t s (n * up d * down e) (m * up e * down d)) (ap (λ (x : Float). lt x margin) (either_way t s n m d e))

  certain : doubtful margin forth ≡ false → lt (fin s m e) (fin t n d) ≡ not (lt (fin t n d) (fin s m e))
  unfolding doubtful eq lt
  certain h = one_way (n * up d * down e) (m * up e * down d) t s (level_comm t s (n * up d * down e) (m * up e * down d) ∙ first_false (level s (m * up e * down d) t (n * up d * down e)) _ h)
    where
      first_false : (x y : Bool) → (x || y) ≡ false → x ≡ false
      first_false true y k = absurd (true≢false k)
      first_false false y k = refl

  exchanged : decision_of margin back ≡ other (decision_of margin forth)
  unfolding decision_of
  exchanged = rw same_doubt (go (doubtful margin forth) refl)
    where
      turn : (g : Bool) → cond (not g) one zero ≡ other (cond g one zero)
      turn true = refl
      turn false = refl

      go : (u : Bool) → doubtful margin forth ≡ u
          → cond u unsure (cond (lt (fin s m e) (fin t n d)) one zero) ≡ other (cond u unsure (cond (lt (fin t n d) (fin s m e)) one zero))
      go true h = refl
      go false h = rw (certain h) (turn (lt (fin t n d) (fin s m e)))

pub halves_exchange : HalvesExchange
halves_exchange margin p i j =
    in_range_finite (λ x. decision_of margin (turned (record { first = x; second = p.second })) ≡ other (decision_of margin (record { first = x; second = p.second })))
    (λ s m e. in_range_finite (λ y. decision_of margin (turned (record { first = fin s m e; second = y })) ≡ other (decision_of margin (record { first = fin s m e; second = y })))
    (λ t n d. exchanged margin s t m n e d) p.second j) p.first i
