-- A word that is not zero has a place with a symbol that is not 0; taking that place away leaves fewer such symbols.
-- Assumes nothing.
use mathlib.Core.Bool.{Bool, true, false, cond}
use mathlib.Core.List.{List, [], ◌∷◌}
use mathlib.Core.Path.{◌≡◌, refl, sym, ap, ap₂, ◌∙◌}
use Prim.Native.Nat.{ℕ, zero, suc, ◌+◌, ◌<◌, ◌≤◌}
use borrow.Author.Tests.{eqb-true, eqb-false, eq-eqb, ne_eqb}
use native.Mathlib.Omega.{arith}
use lib.Bits.{bit_xor, xor_self}
use lib.Dec.{eqb}
use lib.ListN.{length}
use Rattle.field16.specs.Words.{a_to, weight}
use Rattle.field16.specs.Field.{times}
use Rattle.field16.proofs.Elements.{times_zero, zero_times}
use Rattle.field16.proofs.Words.{away, length_away}
use Rattle.field16.proofs.Distance.{weight_none, weight_one, positive, weight_most}

-- the symbol at a^p, which stands before p others
unfoldable pub symbol_at : ℕ → List ℕ → ℕ
symbol_at p [] = 0
symbol_at p (c ∷ cs) = cond (eqb p (length cs)) c (symbol_at p cs)

here : (p c : ℕ) (cs : List ℕ) → p ≡ length cs → symbol_at p (c ∷ cs) ≡ c
unfolding symbol_at
here p c cs e = rw (eq-eqb p (length cs) e)

there : (p c : ℕ) (cs : List ℕ) → (p ≡ length cs → ⊥) → symbol_at p (c ∷ cs) ≡ symbol_at p cs
unfolding symbol_at
there p c cs f = rw (ne_eqb p (length cs) f)

-- a place is the first or one behind it
data Is (p k : ℕ) : Type 0 where
  first : p ≡ k → Is p k
  behind : (p ≡ k → ⊥) → Is p k

is : (p k : ℕ) → Is p k
is p k = by (eqb p k) refl
  where
    by : (q : Bool) → eqb p k ≡ q → Is p k
    by true e = first (eqb-true p k e)
    by false e = behind (eqb-false p k e)

module _ (p x c : ℕ) (cs : List ℕ) where
  away_step : Is p (length cs) → symbol_at p (away x cs) ≡ times (symbol_at p cs) (bit_xor (a_to p) x)
      → symbol_at p (away x (c ∷ cs)) ≡ times (symbol_at p (c ∷ cs)) (bit_xor (a_to p) x)
  unfolding away
  away_step (first e) h =
      here p (times c (bit_xor (a_to (length cs)) x)) (away x cs) (e ∙ sym (length_away x cs))
      ∙ ap₂ (λ (s k : ℕ). times s (bit_xor (a_to k) x)) (sym (here p c cs e)) (sym e)
  away_step (behind f) h =
      there p (times c (bit_xor (a_to (length cs)) x)) (away x cs) (λ e. f (e ∙ length_away x cs))
      ∙ h ∙ ap (λ (s : ℕ). times s (bit_xor (a_to p) x)) (sym (there p c cs f))

pub symbol_away : (p x : ℕ) (w : List ℕ) → symbol_at p (away x w) ≡ times (symbol_at p w) (bit_xor (a_to p) x)
unfolding away symbol_at
symbol_away p x [] = sym (zero_times (bit_xor (a_to p) x))
symbol_away p x (c ∷ cs) = away_step p x c cs (is p (length cs)) (symbol_away p x cs)

-- what a factor makes of it counts no more than it did
factor_le : (c d : ℕ) (v w : List ℕ) (n : ℕ) → weight v + n ≤ weight w → weight (times c d ∷ v) + n ≤ weight (c ∷ w)
factor_le zero d v w n h = omega (arith, weight_none (times 0 d) v (zero_times d), weight_none 0 w refl)
factor_le (suc c) d v w n h = omega (arith, weight_most (times (suc c) d) v, weight_one (suc c) w (omega arith))

pub weight_le : (x : ℕ) (w : List ℕ) → weight (away x w) ≤ weight w
unfolding away
weight_le x [] = omega arith
weight_le x (c ∷ cs) = omega (arith, factor_le c (bit_xor (a_to (length cs)) x) (away x cs) cs 0 (omega (arith, weight_le x cs)))

module _ (p c : ℕ) (cs : List ℕ) where
  drop_step : Is p (length cs) → (0 < symbol_at p cs → weight (away (a_to p) cs) < weight cs) → 0 < symbol_at p (c ∷ cs)
      → weight (away (a_to p) (c ∷ cs)) < weight (c ∷ cs)
  unfolding away
  drop_step (first e) h t =
      let gone : times c (bit_xor (a_to (length cs)) (a_to p)) ≡ 0 =
      ap (λ (k : ℕ). times c (bit_xor (a_to (length cs)) (a_to k))) e ∙ ap (times c) (xor_self (a_to (length cs))) ∙ times_zero c in
      omega (arith, weight_none (times c (bit_xor (a_to (length cs)) (a_to p))) (away (a_to p) cs) gone, weight_le (a_to p) cs, weight_one c cs (omega (arith, here p c cs e)))
  drop_step (behind f) h t =
      let l : weight (away (a_to p) cs) < weight cs = h (omega (arith, there p c cs f)) in
      omega (arith, factor_le c (bit_xor (a_to (length cs)) (a_to p)) (away (a_to p) cs) cs 1 (omega arith))

weight_drop : (p : ℕ) (w : List ℕ) → 0 < symbol_at p w → weight (away (a_to p) w) < weight w
unfolding symbol_at
weight_drop p [] t = absurd (omega arith)
weight_drop p (c ∷ cs) t = drop_step p c cs (is p (length cs)) (weight_drop p cs) t

-- a place of a word with a symbol that is not 0
pub record Place (w : List ℕ) : Type 0 where
  pub at : ℕ
  pub within : at < length w
  pub alive : 0 < symbol_at at w

some : (w : List ℕ) → 0 < weight w → Place w
unfolding weight
some [] h = absurd (omega arith)
some (zero ∷ cs) h =
    let q = some cs h in
    record { at = q.at; within = omega (arith, q.within); alive = omega (arith, q.alive, there q.at 0 cs (λ e. omega (arith, q.within))) }
some (suc c ∷ cs) h = record { at = length cs; within = omega arith; alive = omega (arith, here (length cs) (suc c) cs refl) }

-- a word is zero, or has a place that leaves fewer symbols when it is taken away
pub data Pick (w : List ℕ) : Type 0 where
  none : weight w ≡ 0 → Pick w
  place : (p : ℕ) → p < length w → 0 < symbol_at p w → weight (away (a_to p) w) < weight w → Pick w

pub pick : (w : List ℕ) → Pick w
pick w = by (weight w) refl
  where
    by : (n : ℕ) → weight w ≡ n → Pick w
    by zero e = none e
    by (suc n) e = let q = some w (omega arith) in place q.at q.within q.alive (weight_drop q.at w q.alive)

-- a place with a symbol that is not 0 after x was taken away is not x, and had one before
pub alive_before : (p x : ℕ) (w : List ℕ) → 0 < symbol_at p (away x w) → 0 < symbol_at p w
alive_before p x w h = positive (symbol_at p w) (λ e. omega (arith, symbol_away p x w, ap (λ (s : ℕ). times s (bit_xor (a_to p) x)) e, zero_times (bit_xor (a_to p) x)))

pub alive_other : (p x : ℕ) (w : List ℕ) → 0 < symbol_at p (away x w) → a_to p ≡ x → ⊥
alive_other p x w h e =
    omega (arith, symbol_away p x w, ap (λ (n : ℕ). times (symbol_at p w) (bit_xor n x)) e, ap (times (symbol_at p w)) (xor_self x), times_zero (symbol_at p w))
