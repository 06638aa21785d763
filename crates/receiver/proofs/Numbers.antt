-- The waiting bits are the lowest bits of a number: a bit that joins, the oldest that goes and the test of the places not in use
-- are one step each on that number.
-- Assumes nothing.
use mathlib.Core.Path.{◌≡◌, refl, sym, ap, ◌∙◌}
use mathlib.Core.Bool.{true, ◌&&◌, and-eq-true_iff}
use mathlib.Core.List.{List, [], ◌∷◌, ◌++◌, append_assoc, append-nil}
use Prim.Native.Nat.{ℕ, zero, suc, ◌+◌, ◌-◌, ◌*◌, ◌/◌, ◌%◌, ◌^◌, ◌<◌, ◌≤◌}
use native.Mathlib.Nat.{zero-add, suc-add, suc-mul, pow-succ', mod-lt, div-add-mod'}
use native.Mathlib.Numerals.{add-one}
use native.Mathlib.Omega.{arith}
use borrow.Author.Tests.{ltb-true, lt-ltb, ne_eqb, eqb-true}
use lib.Arith.{mod-mul}
use lib.Dec.{eqb, ltb}
use lib.ListN.{drop, set}
use lib.Pow.{pow_pos, shr_lt}
use lib.Seq.{set_at, drop_at}
use Rattle.block.specs.Bits.{Bits, zeros, value, bits_of}
use Rattle.block.proofs.Strings.{zeros_behind, length_bits_of, val_bits_of, bits_of_join, bits_of_first, bits_of_up}
use Rattle.receiver.specs.States.{bits_proper}

-- the w lowest bits of n in the first places, and the others not in use
abbrev pub places_of : ℕ → ℕ → List ℕ
places_of w n = bits_of w n ++ zeros (50 - w)

-- a bit that joins is the new lowest
pub joins : (w n b : ℕ) → w < 50 → b < 2 → set (places_of w n) w b ≡ places_of (w + 1) (n * 2 + b)
unfolding bits_of
joins w n b h k =
    let e : 50 - w ≡ suc (50 - suc w) = omega arith in
    let up : (n * 2 + b) / 2 ≡ n = omega arith in
    let low : (n * 2 + b) % 2 ≡ b = omega arith in
    rw (add-one w, e, up, low, append_assoc) (set_at (bits_of w n) 0 (zeros (50 - suc w)) b w (length_bits_of w n))

pub full : (n : ℕ) → places_of 50 n ≡ bits_of 50 n
full n = append-nil (bits_of 50 n)

pub used_up : places_of 0 0 ≡ zeros 50
unfolding bits_of
used_up = refl

-- the oldest bit passed over leaves the bits below it
pub passes : (n : ℕ) → drop 1 (bits_of 50 n) ++ (0 ∷ []) ≡ places_of 49 (n % 2 ^ 49)
passes n =
    let q : ℕ = n / 2 ^ 49 in
    let e : n ≡ q * 2 ^ 49 + n % 2 ^ 49 = sym (div-add-mod' n (2 ^ 49)) in
    let parts : bits_of 50 n ≡ bits_of 1 q ++ bits_of 49 (n % 2 ^ 49) = ap (bits_of 50) e ∙ bits_of_join 1 49 q (n % 2 ^ 49) (mod-lt n (pow_pos 49)) in
    rw (parts, drop_at (bits_of 1 q) (bits_of 49 (n % 2 ^ 49)) 1 (length_bits_of 1 q))

-- ---- the places not in use, below the bits

pub raised : (w n : ℕ) → w ≤ 50 → bits_of 50 (n * 2 ^ (50 - w)) ≡ places_of w n
raised w n h =
    let d : 50 ≡ w + (50 - w) = omega arith in
    ap (λ (k : ℕ). bits_of k (n * 2 ^ (50 - w))) d ∙ bits_of_up w (50 - w) n

pub raised_value : (w n : ℕ) → n < 2 ^ w → value (places_of w n) ≡ n * 2 ^ (50 - w)
raised_value w n h = zeros_behind (bits_of w n) (50 - w) ∙ ap (λ (v : ℕ). v * 2 ^ (50 - w)) (val_bits_of w n h)

pub window_lt : (w n : ℕ) → w ≤ 50 → n < 2 ^ 50 → n / 2 ^ (50 - w) < 2 ^ w
window_lt w n h k = let d : w + (50 - w) ≡ 50 = omega arith in shr_lt w (50 - w) (rw d k)

pub lowered : (w n : ℕ) → w ≤ 50 → n % 2 ^ (50 - w) ≡ 0 → bits_of 50 n ≡ places_of w (n / 2 ^ (50 - w))
lowered w n h e =
    let q : ℕ = n / 2 ^ (50 - w) in
    let f : n ≡ q * 2 ^ (50 - w) = omega (arith, div-add-mod' n (2 ^ (50 - w))) in
    ap (bits_of 50) f ∙ raised w q h

-- ---- the test

both_zero : (a p r : ℕ) → 0 < p → (eqb a 0 && eqb r 0) ≡ eqb (a * p + r) 0
both_zero zero p r h = let e : 0 * p + r ≡ r = omega arith in rw e
both_zero (suc a) p r h = rw (ne_eqb (suc a) 0 (λ e. omega arith), ne_eqb (suc a * p + r) 0 (λ e. omega (arith, suc-mul a p)))

none_used : (k n : ℕ) → bits_proper 0 (bits_of k n) ≡ eqb (n % 2 ^ k) 0
unfolding bits_proper bits_of
none_used zero n = let e : n % 2 ^ 0 ≡ 0 = omega arith in rw e
none_used (suc k) n =
    rw (bits_of_first k n, none_used k n, pow-succ' 2 k, mod-mul n {m = 2} {c = 2 ^ k} (omega arith) (pow_pos k))
    (both_zero (n / 2 ^ k % 2) (2 ^ k) (n % 2 ^ k) (pow_pos k))

used : (w k n : ℕ) → bits_proper w (bits_of (w + k) n) ≡ eqb (n % 2 ^ k) 0
unfolding bits_proper
used zero k n = rw zero-add (none_used k n)
used (suc w) k n = rw (suc-add, bits_of_first (w + k) n, lt-ltb (n / 2 ^ (w + k) % 2) 2 (omega arith)) (used w k n)

pub proper_number : (w n : ℕ) → w ≤ 50 → bits_proper w (bits_of 50 n) ≡ eqb (n % 2 ^ (50 - w)) 0
proper_number w n h = let d : w + (50 - w) ≡ 50 = omega arith in rw d at (used w (50 - w) n)

pub proper_bits : (w : ℕ) (l : List ℕ) → bits_proper w l ≡ true → Bits l
unfolding bits_proper
proper_bits w [] e = tt
proper_bits zero (b ∷ l) e =
    let p = (and-eq-true_iff (eqb b 0) (bits_proper 0 l)).0 e in
    (omega (arith, eqb-true b 0 p.0), proper_bits zero l p.1)
proper_bits (suc w) (b ∷ l) e = let p = (and-eq-true_iff (ltb b 2) (bits_proper w l)).0 e in (ltb-true b 2 p.0, proper_bits w l p.1)
