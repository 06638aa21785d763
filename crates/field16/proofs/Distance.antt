-- A word of at most k symbols that are not 0 vanishes at k successive powers of a only if it is zero: its first place taken away
-- leaves one symbol fewer and one power fewer. So a word is known by its values, up to six places.
-- Assumes nothing.
use mathlib.Core.Bool.{Bool, true, false, ◌||◌}
use mathlib.Core.List.{List, [], ◌∷◌}
use mathlib.Core.Path.{◌≡◌, refl, sym, ap, ap₂, ◌∙◌}
use Prim.Native.Nat.{ℕ, zero, suc, ◌+◌, ◌<◌, ◌≤◌}
use native.Mathlib.Omega.{arith}
use lib.Bits.{bit_xor, xor_self, xor_zero_r, xor_zero_l, xor_lt}
use lib.Dec.{T, eqb, ltb, eqb→eq, ltb→lt}
use lib.ListN.{length}
use Rattle.block.specs.Bits.{xors}
use Rattle.block.proofs.Below.{at_pairs}
use Rattle.block.proofs.Strings.{length_xors}
use Rattle.block.proofs.Xor.{xor_eq}
use Rattle.field16.specs.Words.{Symbols, a_to, at, weight}
use Rattle.field16.specs.Field.{times, power}
use Rattle.field16.proofs.Elements.{times_comm, times_zero, zero_times, times_nonzero, power_lt}
use Rattle.field16.proofs.Words.{symbols_xors, at_xors, away, length_away, symbols_away, next_sum}

pub weight_none : (n : ℕ) (w : List ℕ) → n ≡ 0 → weight (n ∷ w) ≡ weight w
unfolding weight
weight_none zero w e = refl
weight_none (suc n) w e = absurd (omega arith)

pub weight_nil : weight [] ≡ 0
unfolding weight
weight_nil = refl

pub weight_one : (n : ℕ) (w : List ℕ) → 0 < n → weight (n ∷ w) ≡ suc (weight w)
unfolding weight
weight_one zero w h = absurd (omega arith)
weight_one (suc n) w h = refl

-- a symbol in front counts for one at most, and never for less than nothing
pub weight_most : (n : ℕ) (w : List ℕ) → weight (n ∷ w) ≤ suc (weight w)
weight_most zero w = omega (arith, weight_none 0 w refl)
weight_most (suc n) w = omega (arith, weight_one (suc n) w (omega arith))

pub weight_least : (n : ℕ) (w : List ℕ) → weight w ≤ weight (n ∷ w)
weight_least zero w = omega (arith, weight_none 0 w refl)
weight_least (suc n) w = omega (arith, weight_one (suc n) w (omega arith))

-- words added have no more symbols that are not 0 than both together
pub weight_xors : (v w : List ℕ) → weight (xors v w) ≤ weight v + weight w
unfolding xors
weight_xors [] w = omega (arith, weight_nil)
weight_xors (b ∷ bs) [] = omega (arith, weight_nil)
weight_xors (zero ∷ bs) (zero ∷ cs) = omega (arith, weight_none 0 (xors bs cs) refl, weight_none 0 bs refl, weight_none 0 cs refl, weight_xors bs cs)
weight_xors (zero ∷ bs) (suc c ∷ cs) =
    omega (arith, weight_most (bit_xor 0 (suc c)) (xors bs cs), weight_none 0 bs refl, weight_one (suc c) cs (omega arith), weight_xors bs cs)
weight_xors (suc b ∷ bs) (c ∷ cs) =
    omega (arith, weight_most (bit_xor (suc b) c) (xors bs cs), weight_one (suc b) bs (omega arith), weight_least c cs, weight_xors bs cs)

-- a number that is not 0 is positive
pub positive : (n : ℕ) → (n ≡ 0 → ⊥) → 0 < n
positive zero f = absurd (f refl)
positive (suc n) f = omega arith

pub times_pos : (a b : ℕ) → a < 16 → b < 16 → 0 < a → 0 < b → 0 < times a b
times_pos a b ha hb pa pb = positive (times a b) (λ e. let z = times_nonzero a b ha pa hb e in omega arith)

pub power_pos : (x n : ℕ) → x < 16 → 0 < x → 0 < power x n
unfolding power
power_pos x zero h p = omega arith
power_pos x (suc n) h p = times_pos x (power x n) h (power_lt x n) p (power_pos x n h p)

or_right : (a b : Bool) → (T a → ⊥) → T (a || b) → T b
or_right true b f t = absurd (f tt)
or_right false b f t = t

-- two places of a word differ
pub places_differ : (j k : ℕ) → j < 15 → k < 15 → (j ≡ k → ⊥) → 0 < bit_xor (a_to j) (a_to k)
unfolding power times
places_differ j k hj hk f =
    ltb→lt 0 (bit_xor (a_to j) (a_to k))
    (or_right (eqb j k) (ltb 0 (bit_xor (a_to j) (a_to k))) (λ t. f (eqb→eq j k t))
    (at_pairs 15 (λ j k. eqb j k || ltb 0 (bit_xor (a_to j) (a_to k))) tt j k hj hk))

-- a place above the word leaves every symbol that is not 0
weight_away : (k : ℕ) (w : List ℕ) → k < 15 → length w ≤ k → Symbols w → weight (away (a_to k) w) ≡ weight w
unfolding away
weight_away k [] hk l s = refl
weight_away k (zero ∷ cs) hk l s =
    weight_none (times 0 (bit_xor (a_to (length cs)) (a_to k))) (away (a_to k) cs) (zero_times (bit_xor (a_to (length cs)) (a_to k)))
    ∙ weight_away k cs hk (omega arith) s.1 ∙ sym (weight_none 0 cs refl)
weight_away k (suc c ∷ cs) hk l s =
    let d : ℕ = bit_xor (a_to (length cs)) (a_to k) in
    let hd : d < 16 = xor_lt 4 (a_to (length cs)) (a_to k) (power_lt 2 (length cs)) (power_lt 2 k) in
    let pd : 0 < d = places_differ (length cs) k (omega arith) hk (λ e. omega arith) in
    weight_one (times (suc c) d) (away (a_to k) cs) (times_pos (suc c) d s.0 hd (omega arith) pd)
    ∙ ap suc (weight_away k cs hk (omega arith) s.1) ∙ sym (weight_one (suc c) cs (omega arith))

pub at_first_zero : (X : ℕ) (c : ℕ) (w : List ℕ) → c ≡ 0 → at X (c ∷ w) ≡ at X w
unfolding at
at_first_zero X c w e =
    ap (λ (c : ℕ). bit_xor (times c (power X (length w))) (at X w)) e
    ∙ ap (λ (n : ℕ). bit_xor n (at X w)) (zero_times (power X (length w))) ∙ xor_zero_l (at X w)

pub at_weightless : (X : ℕ) (w : List ℕ) → weight w ≡ 0 → at X w ≡ 0
unfolding at weight
at_weightless X [] e = refl
at_weightless X (zero ∷ cs) e = at_first_zero X 0 cs refl ∙ at_weightless X cs e
at_weightless X (suc c ∷ cs) e = absurd (omega arith)

-- one symbol alone vanishes nowhere
alone : (c : ℕ) (w : List ℕ) → c < 16 → weight w ≡ 0 → at (a_to 1) (c ∷ w) ≡ 0 → c ≡ 0
unfolding at
alone c w h e z =
    times_nonzero (power (a_to 1) (length w)) c (power_lt (a_to 1) (length w)) (power_pos (a_to 1) (length w) (power_lt 2 1) (power_pos 2 1 (omega arith) (omega arith))) h
    (times_comm (power (a_to 1) (length w)) c ∙ sym (xor_zero_r (times c (power (a_to 1) (length w)))) ∙ ap (bit_xor (times c (power (a_to 1) (length w)))) (sym (at_weightless (a_to 1) w e)) ∙ z)

-- the first place taken away from a word that vanishes: the rest vanishes at one power fewer
rest_vanishes : (j c : ℕ) (cs : List ℕ) → at (a_to j) (c ∷ cs) ≡ 0 → at (a_to (suc j)) (c ∷ cs) ≡ 0 → at (a_to j) (away (a_to (length cs)) cs) ≡ 0
unfolding power away
rest_vanishes j c cs e f =
    let x : ℕ = a_to (length cs) in
    sym (at_first_zero (a_to j) (times c (bit_xor x x)) (away x cs) (ap (times c) (xor_self x) ∙ times_zero c))
    ∙ sym (xor_zero_r (at (a_to j) (away x (c ∷ cs))))
    ∙ ap (bit_xor (at (a_to j) (away x (c ∷ cs)))) (sym (times_zero x) ∙ ap (times x) (sym e))
    ∙ sym (next_sum (a_to j) x (c ∷ cs)) ∙ f

pub vanishing : (n k : ℕ) (w : List ℕ) → length w ≡ n → n ≤ 15 → Symbols w → weight w ≤ k → ((j : ℕ) → 1 ≤ j → j ≤ k → at (a_to j) w ≡ 0) → weight w ≡ 0
vanishing zero k [] l h s few v = weight_nil
vanishing zero k (c ∷ cs) l h s few v = absurd (omega arith)
vanishing (suc n) k [] l h s few v = weight_nil
vanishing (suc n) k (zero ∷ cs) l h s few v =
    let e = weight_none 0 cs refl in
    e ∙ vanishing n k cs (omega arith) (omega arith) s.1 (omega arith) (λ j p q. sym (at_first_zero (a_to j) 0 cs refl) ∙ v j p q)
vanishing (suc n) zero (suc c ∷ cs) l h s few v = absurd (omega (arith, weight_one (suc c) cs (omega arith)))
vanishing (suc n) (suc k) (suc c ∷ cs) l h s few v =
    let x : ℕ = a_to (length cs) in
    let w : weight (away x cs) ≡ weight cs = weight_away (length cs) cs (omega arith) (omega arith) s.1 in
    let e = weight_one (suc c) cs (omega arith) in
    let none : weight (away x cs) ≡ 0 =
    vanishing n k (away x cs) (length_away x cs ∙ omega arith) (omega arith) (symbols_away x cs) (omega arith)
    (λ j p q. rest_vanishes j (suc c) cs (v j p (omega arith)) (v (suc j) (omega arith) (omega arith))) in
    let z : suc c ≡ 0 = alone (suc c) cs s.0 (sym w ∙ none) (v 1 (omega arith) (omega arith)) in
    absurd (omega arith)

-- words whose sum is zero are the same
none_step : (n b c : ℕ) (bs cs : List ℕ) → bit_xor b c ≡ n → (weight (xors bs cs) ≡ 0 → bs ≡ cs) → weight (n ∷ xors bs cs) ≡ 0 → b ∷ bs ≡ c ∷ cs
unfolding weight
none_step zero b c bs cs e rest z = ap₂ (λ (x : ℕ) (l : List ℕ). x ∷ l) (xor_eq b c e) (rest z)
none_step (suc n) b c bs cs e rest z = absurd (omega arith)

sum_none : (u v : List ℕ) → length u ≡ length v → weight (xors u v) ≡ 0 → u ≡ v
unfolding xors
sum_none [] [] e z = refl
sum_none [] (c ∷ cs) e z = absurd (omega arith)
sum_none (b ∷ bs) [] e z = absurd (omega arith)
sum_none (b ∷ bs) (c ∷ cs) e z = none_step (bit_xor b c) b c bs cs refl (sum_none bs cs (omega arith)) z

-- two words of fifteen symbols that differ in at most six places and have the same values at a^1 to a^6 are the same
pub same_word : (u v : List ℕ) → length u ≡ 15 → length v ≡ 15 → Symbols u → Symbols v → weight (xors u v) ≤ 6
    → ((j : ℕ) → 1 ≤ j → j ≤ 6 → at (a_to j) u ≡ at (a_to j) v) → u ≡ v
same_word u v lu lv su sv few values =
    let l : length u ≡ length v = lu ∙ sym lv in
    sum_none u v l
    (vanishing 15 6 (xors u v) (length_xors u v l ∙ lu) (omega arith) (symbols_xors u v su sv) few
    (λ j p q. at_xors (a_to j) u v l ∙ ap (λ (n : ℕ). bit_xor n (at (a_to j) v)) (values j p q) ∙ xor_self (at (a_to j) v)))
