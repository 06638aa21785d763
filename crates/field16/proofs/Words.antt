-- The value of a word is linear in its symbols, and a place taken away from a word is taken away from its power sums.
-- Assumes nothing.
use mathlib.Core.List.{List, [], ◌∷◌, ◌++◌}
use mathlib.Core.Path.{◌≡◌, refl, sym, ap, ap₂, ◌∙◌}
use Prim.Native.Nat.{ℕ, zero, suc, ◌+◌, ◌<◌}
use native.Mathlib.Omega.{arith}
use lib.Bits.{bit_xor, xor_self, xor_zero_l, xor_zero_r, xor_lt}
use lib.ListN.{length, length-append}
use Rattle.block.specs.Bits.{xors}
use Rattle.block.proofs.Strings.{length_xors}
use Rattle.block.proofs.Xor.{xor_assoc, xor_swap}
use Rattle.field16.specs.Words.{Symbols, a_to, at}
use Rattle.field16.specs.Field.{times, power}
use Rattle.field16.proofs.Elements.{times_lt, times_comm, times_assoc, times_xor, xor_times, times_one, times_zero, zero_times, power_lt}

pub symbols_xors : (u v : List ℕ) → Symbols u → Symbols v → Symbols (xors u v)
unfolding xors
symbols_xors [] v p q = tt
symbols_xors (b ∷ bs) [] p q = tt
symbols_xors (b ∷ bs) (c ∷ cs) p q = (xor_lt 4 b c p.0 q.0, symbols_xors bs cs p.1 q.1)

pub at_lt : (X : ℕ) (w : List ℕ) → at X w < 16
unfolding at
at_lt X [] = omega arith
at_lt X (c ∷ cs) = xor_lt 4 (times c (power X (length cs))) (at X cs) (times_lt c (power X (length cs))) (at_lt X cs)

pub at_xors : (X : ℕ) (u v : List ℕ) → length u ≡ length v → at X (xors u v) ≡ bit_xor (at X u) (at X v)
unfolding at xors
at_xors X [] [] e = refl
at_xors X [] (c ∷ cs) e = absurd (omega arith)
at_xors X (b ∷ bs) [] e = absurd (omega arith)
at_xors X (b ∷ bs) (c ∷ cs) e =
    let d : length bs ≡ length cs = omega arith in
    let p : ℕ = power X (length bs) in
    ap₂ (λ (k y : ℕ). bit_xor (times (bit_xor b c) (power X k)) y) (length_xors bs cs d) (at_xors X bs cs d)
    ∙ ap (λ (y : ℕ). bit_xor y (bit_xor (at X bs) (at X cs))) (xor_times b c p ∙ ap (λ (k : ℕ). bit_xor (times b p) (times c (power X k))) d)
    ∙ xor_swap (times b p) (times c (power X (length cs))) (at X bs) (at X cs)

-- a sum taken twice is gone
pub xor_twice : (a b : ℕ) → bit_xor (bit_xor a b) b ≡ a
xor_twice a b = xor_assoc a b b ∙ ap (bit_xor a) (xor_self b) ∙ xor_zero_r a

-- the first two of three factors change places
pub times_swap : (a b c : ℕ) → times a (times b c) ≡ times b (times a c)
times_swap a b c = times_assoc a b c ∙ ap (λ (n : ℕ). times n c) (times_comm a b) ∙ sym (times_assoc b a c)

pub power_times : (a b k : ℕ) → power (times a b) k ≡ times (power a k) (power b k)
unfolding power
power_times a b zero = sym (times_one 1 (omega arith))
power_times a b (suc k) =
    ap (times (times a b)) (power_times a b k) ∙ sym (times_assoc a b (times (power a k) (power b k)))
    ∙ ap (times a) (times_swap b (power a k) (power b k)) ∙ times_assoc a (power a k) (times b (power b k))

-- the place x taken away: each symbol times what its own place differs from x
unfoldable pub away : ℕ → List ℕ → List ℕ
away x [] = []
away x (c ∷ cs) = times c (bit_xor (a_to (length cs)) x) ∷ away x cs

pub length_away : (x : ℕ) (w : List ℕ) → length (away x w) ≡ length w
unfolding away
length_away x [] = refl
length_away x (c ∷ cs) = ap suc (length_away x cs)

pub symbols_away : (x : ℕ) (w : List ℕ) → Symbols (away x w)
unfolding away
symbols_away x [] = tt
symbols_away x (c ∷ cs) = (times_lt c (bit_xor (a_to (length cs)) x), symbols_away x cs)

-- one symbol c at its place A, where P is a power of X
pub place_away : (c A x P : ℕ) → bit_xor (times (times c (bit_xor A x)) P) (times x (times c P)) ≡ times c (times A P)
place_away c A x P =
    ap₂ bit_xor (sym (times_assoc c (bit_xor A x) P) ∙ ap (times c) (xor_times A x P) ∙ times_xor c (times A P) (times x P)) (times_swap x c P)
    ∙ xor_twice (times c (times A P)) (times c (times x P))

pub next_sum : (X x : ℕ) (w : List ℕ) → at (times 2 X) w ≡ bit_xor (at X (away x w)) (times x (at X w))
unfolding at away
next_sum X x [] = sym (times_zero x)
next_sum X x (c ∷ cs) =
    let k : ℕ = length cs in
    let p : ℕ = power X k in
    ap₂ (λ (q y : ℕ). bit_xor (times c q) y) (power_times 2 X k) (next_sum X x cs)
    ∙ ap (λ (y : ℕ). bit_xor y (bit_xor (at X (away x cs)) (times x (at X cs)))) (sym (place_away c (a_to k) x p))
    ∙ xor_swap (times (times c (bit_xor (a_to k) x)) p) (times x (times c p)) (at X (away x cs)) (times x (at X cs))
    ∙ ap₂ (λ (n y : ℕ). bit_xor (bit_xor (times (times c (bit_xor (a_to k) x)) (power X n)) (at X (away x cs))) y)
    (sym (length_away x cs)) (sym (times_xor x (times c p) (at X cs)))

power_add : (X m n : ℕ) → power X (m + n) ≡ times (power X m) (power X n)
unfolding power
power_add X zero n = let e : 0 + n ≡ n = omega arith in ap (power X) e ∙ sym (times_one (power X n) (power_lt X n))
power_add X (suc m) n =
    let e : suc m + n ≡ suc (m + n) = omega arith in
    ap (power X) e ∙ ap (times X) (power_add X m n) ∙ times_assoc X (power X m) (power X n)

-- the value of two words one after the other
pub at_append : (X : ℕ) (u v : List ℕ) → at X (u ++ v) ≡ bit_xor (times (at X u) (power X (length v))) (at X v)
unfolding at
at_append X [] v = sym (ap (λ (n : ℕ). bit_xor n (at X v)) (zero_times (power X (length v))) ∙ xor_zero_l (at X v))
at_append X (c ∷ cs) v =
    let p : ℕ = power X (length v) in
    ap₂ (λ (n y : ℕ). bit_xor (times c (power X n)) y) (length-append cs v) (at_append X cs v)
    ∙ ap (λ (q : ℕ). bit_xor (times c q) (bit_xor (times (at X cs) p) (at X v))) (power_add X (length cs) (length v))
    ∙ sym (xor_assoc (times c (times (power X (length cs)) p)) (times (at X cs) p) (at X v))
    ∙ ap (λ (n : ℕ). bit_xor n (at X v))
    (ap (λ (n : ℕ). bit_xor n (times (at X cs) p)) (times_assoc c (power X (length cs)) p) ∙ sym (xor_times (times c (power X (length cs))) (at X cs) p))
