-- A number with digits written behind it only grows, and digits alone write a number below the power of ten of their count.
-- Assumes nothing.
use mathlib.Core.Bool.{Bool, true, false, cond, ◌&&◌, and-eq-true_iff, and-false}
use mathlib.Core.List.{List, [], ◌∷◌}
use mathlib.Core.Path.{◌≡◌, refl, sym, ap, ◌∙◌}
use Rattle.std.proofs.Common.{Option, None, Some}
use Prim.Native.Nat.{ℕ, suc, ◌+◌, ◌*◌, ◌-◌, ◌^◌, ◌≤◌, ◌<◌}
use native.Mathlib.Nat.{mul_assoc, mul-le-mul_right, pow-succ'}
use native.Mathlib.Omega.{arith}
use borrow.Author.Tests.{le-leb, lt-leb, leb-true}
use lib.Dec.{leb}
use lib.ListN.{length, take, drop, length-take, length-drop}
use Rattle.std.specs.Char.{is_ascii_digit}
use Rattle.arguments.specs.Numbers.{is_digit, are_digits, behind, number_behind, number_of}
use Rattle.arguments.specs.Times.{number_at}

pub digit : (c : ℕ) → is_digit c ≡ true → (48 ≤ c) × (c ≤ 57)
unfolding is_digit
digit c e =
    let p = (and-eq-true_iff (leb 48 c) (leb c 57)).0 e in
    (leb-true 48 c p.0, leb-true c 57 p.1)

-- the library's digits are these
pub same_digits : (c : ℕ) → is_ascii_digit c ≡ is_digit c
unfolding is_digit
same_digits c = refl

-- ---- one character after another

pub some : (text : List ℕ) → 0 < length text → number_of text ≡ number_behind 0 text
unfolding number_of
some [] h = absurd (omega arith)
some (c ∷ cs) h = refl

pub none : (text : List ℕ) → length text ≡ 0 → number_of text ≡ None
unfolding number_of
none [] h = refl
none (c ∷ cs) h = absurd (omega arith)

pub ends : (n : ℕ) → n ≤ 9999999 → number_behind n [] ≡ Some n
unfolding number_behind are_digits behind
ends n h = rw (le-leb n 9999999 h)

pub goes_on : (n c : ℕ) (cs : List ℕ) → is_digit c ≡ true → number_behind n (c ∷ cs) ≡ number_behind (n * 10 + (c - 48)) cs
unfolding number_behind are_digits behind
goes_on n c cs d = rw d

pub no_digit : (n c : ℕ) (cs : List ℕ) → is_digit c ≡ false → number_behind n (c ∷ cs) ≡ None
unfolding number_behind are_digits behind
no_digit n c cs d = rw d

grows : (n : ℕ) (cs : List ℕ) → n ≤ behind n cs
unfolding behind
grows n [] = omega arith
grows n (c ∷ cs) = omega (arith, grows (n * 10 + (c - 48)) cs)

pub too_large : (n c : ℕ) (cs : List ℕ) → 999999 < n → number_behind n (c ∷ cs) ≡ None
unfolding number_behind behind
too_large n c cs h =
    let k : 9999999 < behind (n * 10 + (c - 48)) cs = omega (arith, grows (n * 10 + (c - 48)) cs) in
    rw (lt-leb (behind (n * 10 + (c - 48)) cs) 9999999 k, and-false)

-- ---- how large

below : (n : ℕ) (cs : List ℕ) → are_digits cs ≡ true → behind n cs < (n + 1) * 10 ^ length cs
unfolding are_digits behind
below n [] d = omega arith
below n (c ∷ cs) d =
    let p = (and-eq-true_iff (is_digit c) (are_digits cs)).0 d in
    let q = digit c p.0 in
    let m : n * 10 + (c - 48) + 1 ≤ (n + 1) * 10 = omega arith in
    let e : (n + 1) * 10 ^ suc (length cs) ≡ (n + 1) * 10 * 10 ^ length cs =
    ap (λ (k : ℕ). (n + 1) * k) (pow-succ' 10 (length cs)) ∙ sym (mul_assoc (n + 1) 10 (10 ^ length cs)) in
    rw e (omega (arith, below (n * 10 + (c - 48)) cs p.1, mul-le-mul_right (10 ^ length cs) m))

-- a number, if it is one, is below a bound
abbrev pub Below : ℕ → Option ℕ → Type 0
Below bound (Some n) = n < bound
Below bound None = Unit {0}

number_below : (text : List ℕ) → Below (10 ^ length text) (number_of text)
unfolding number_of number_behind
number_below [] = tt
number_below (c ∷ cs) = by (are_digits (c ∷ cs)) (leb (behind 0 (c ∷ cs)) 9999999) refl
  where
    by : (t u : Bool) → are_digits (c ∷ cs) ≡ t → Below (10 ^ length (c ∷ cs)) (cond (t && u) (Some (behind 0 (c ∷ cs))) None)
    by true true d = omega (arith, below 0 (c ∷ cs) d)
    by true false d = tt
    by false u d = tt

pub part_below : (text : List ℕ) (place size : ℕ) → place + size ≤ length text → Below (10 ^ size) (number_at text place size)
unfolding number_at
part_below text place size h =
    let e : length (take size (drop place text)) ≡ size = simp (length-take, length-drop) (omega arith) in
    rw e at (number_below (take size (drop place text)))
