-- Numbers and their digits: a digit stands at its place whatever stands above, digits and number give each other back, and sums go by digits.
-- Assumes nothing.
use mathlib.Core.Path.{◌≡◌, refl, sym, ap, ap₂, ◌∙◌, subst}
use mathlib.Core.List.{List, [], ◌∷◌, ◌++◌}
use Prim.Native.Nat.{ℕ, zero, suc, ◌+◌, ◌-◌, ◌*◌, ◌/◌, ◌%◌, ◌^◌, ◌<◌}
use native.Mathlib.Nat.{mod-lt, mod-one, mod-eq_of_lt, div-one, div-add-mod', mul-suc, mul-zero, mul-add, add-mul, mul_assoc, mul_comm, zero-add, suc-add, add_assoc, add_comm}
use native.Mathlib.Omega.{arith}
use lib.Arith.{digits_lt}
use lib.Bits.{bit_xor, xor_shr, xor_mod}
use lib.ListN.{length, length-append}
use lib.Pow.{pow_pos, pow-add, shr-shr, high, low, mod-pow-add, field, mod-mod-pow}
use Rattle.block.specs.Bits.{xors}
use Rattle.big_endian.specs.Digits.{digits, number}

-- each digit is below b
abbrev pub Below : ℕ → List ℕ → Type 0
Below b [] = Unit {0}
Below b (d ∷ ds) = (d < b) × Below b ds

-- the bits of one digit more
more : (w k : ℕ) → w * suc k ≡ w + w * k
more w k = mul-suc w k ∙ add_comm (w * k) w

pub length_digits : (w k n : ℕ) → length (digits w k n) ≡ k
unfolding digits
length_digits w zero n = refl
length_digits w (suc k) n = ap suc (length_digits w k n)

-- what stands more than j bits above the digits does not count
above : (w k j n : ℕ) → digits w k (n % 2 ^ (j + w * k)) ≡ digits w k n
unfolding digits
above w zero j n = refl
above w (suc k) j n =
    let e : j + w * suc k ≡ j + w + w * k = ap (λ (m : ℕ). j + m) (more w k) ∙ sym (add_assoc j w (w * k)) in
    ap (λ (m : ℕ). digits w (suc k) (n % 2 ^ m)) e
    ∙ ap₂ (λ (d : ℕ) (ds : List ℕ). d ∷ ds)
    (ap (λ (m : ℕ). m % 2 ^ w) (field n (j + w) (w * k)) ∙ mod-mod-pow (n / 2 ^ (w * k)) j w)
    (above w k (j + w) n)

pub digits_low : (w k n : ℕ) → digits w k (n % 2 ^ (w * k)) ≡ digits w k n
digits_low w k n = ap (λ (m : ℕ). digits w k (n % 2 ^ m)) (sym (zero-add (w * k))) ∙ above w k 0 n

pub digits_under : (w k high low : ℕ) → low < 2 ^ (w * k) → digits w k (high * 2 ^ (w * k) + low) ≡ digits w k low
digits_under w k hi lo h = sym (digits_low w k (hi * 2 ^ (w * k) + lo)) ∙ ap (digits w k) (low hi (w * k) h)

pub digits_append : (w j k high low : ℕ) → low < 2 ^ (w * k) → digits w (j + k) (high * 2 ^ (w * k) + low) ≡ digits w j high ++ digits w k low
unfolding digits
digits_append w zero k hi lo h = ap (λ (m : ℕ). digits w m (hi * 2 ^ (w * k) + lo)) (zero-add k) ∙ digits_under w k hi lo h
digits_append w (suc j) k hi lo h =
    let n : ℕ = hi * 2 ^ (w * k) + lo in
    let e : w * (j + k) ≡ w * k + w * j = mul-add w j k ∙ add_comm (w * j) (w * k) in
    ap (λ (m : ℕ). digits w m n) (suc-add j k)
    ∙ ap₂ (λ (d : ℕ) (ds : List ℕ). d ∷ ds)
    (ap (λ (m : ℕ). n / 2 ^ m % 2 ^ w) e ∙ ap (λ (m : ℕ). m % 2 ^ w) (sym (shr-shr n (w * k) (w * j)) ∙ ap (λ (m : ℕ). m / 2 ^ (w * j)) (high hi (w * k) h)))
    (digits_append w j k hi lo h)

pub number_digits : (w k n : ℕ) → number w (digits w k n) ≡ n % 2 ^ (w * k)
unfolding digits number
number_digits w zero n = sym (ap (λ (m : ℕ). n % 2 ^ m) (mul-zero w) ∙ mod-one n)
number_digits w (suc k) n =
    ap₂ (λ (l m : ℕ). n / 2 ^ (w * k) % 2 ^ w * 2 ^ (w * l) + m) (length_digits w k n) (number_digits w k n)
    ∙ sym (ap (λ (m : ℕ). n % 2 ^ m) (more w k) ∙ mod-pow-add n w (w * k))

pub number_lt : (w : ℕ) (ds : List ℕ) → Below (2 ^ w) ds → number w ds < 2 ^ (w * length ds)
unfolding number
number_lt w [] h = pow_pos (w * 0)
number_lt w (d ∷ ds) h =
    subst (λ (m : ℕ). number w (d ∷ ds) < m) (sym (ap (λ (m : ℕ). 2 ^ m) (more w (length ds)) ∙ pow-add 2 w (w * length ds)))
    (digits_lt h.0 (number_lt w ds h.1))

pub digits_number : (w : ℕ) (ds : List ℕ) → Below (2 ^ w) ds → digits w (length ds) (number w ds) ≡ ds
unfolding digits number
digits_number w [] h = refl
digits_number w (d ∷ ds) h =
    let l : number w ds < 2 ^ (w * length ds) = number_lt w ds h.1 in
    ap₂ (λ (d : ℕ) (ds : List ℕ). d ∷ ds)
    (ap (λ (m : ℕ). m % 2 ^ w) (high d (w * length ds) l) ∙ mod-eq_of_lt h.0)
    (digits_under w (length ds) d (number w ds) l ∙ digits_number w ds h.1)

pub digits_xor : (w k m n : ℕ) → digits w k (bit_xor m n) ≡ xors (digits w k m) (digits w k n)
unfolding digits xors
digits_xor w zero m n = refl
digits_xor w (suc k) m n =
    ap₂ (λ (d : ℕ) (ds : List ℕ). d ∷ ds)
    (ap (λ (x : ℕ). x % 2 ^ w) (xor_shr m n (w * k)) ∙ xor_mod (m / 2 ^ (w * k)) (n / 2 ^ (w * k)) w)
    (digits_xor w k m n)

-- the highest of some digits, and the digits below it
pub digits_next : (w k n : ℕ) → 0 < k → digits w k n ≡ n / 2 ^ ((k - 1) * w) % 2 ^ w ∷ digits w (k - 1) n
unfolding digits
digits_next w zero n h = absurd (omega arith)
digits_next w (suc k) n h =
    let e : k ≡ suc k - 1 = omega arith in
    ap (λ (m : ℕ). n / 2 ^ m % 2 ^ w ∷ digits w k n) (mul_comm w k) ∙ ap (λ (m : ℕ). n / 2 ^ (m * w) % 2 ^ w ∷ digits w m n) e

-- the lowest of some digits, and the digits above it
pub digits_last : (w k n : ℕ) → digits w (suc k) n ≡ digits w k (n / 2 ^ w) ++ (n % 2 ^ w ∷ [])
unfolding digits
digits_last w k n =
    let b : ℕ = n % 2 ^ w in
    let h : b < 2 ^ w = mod-lt n (pow_pos w) in
    let one : w * 1 ≡ w = omega arith in
    let e : n ≡ n / 2 ^ w * 2 ^ (w * 1) + b = rw one (sym (div-add-mod' n (2 ^ w))) in
    let d : suc k ≡ k + 1 = omega arith in
    ap₂ (digits w) d e ∙ digits_append w k 1 (n / 2 ^ w) b (rw one h)
    ∙ ap (λ (m : ℕ). digits w k (n / 2 ^ w) ++ (m ∷ [])) (ap (λ (m : ℕ). b / 2 ^ m % 2 ^ w) (mul-zero w) ∙ ap (λ (m : ℕ). m % 2 ^ w) (div-one b) ∙ mod-eq_of_lt h)

-- a digit behind others
pub number_more : (w : ℕ) (ds : List ℕ) (d : ℕ) → number w (ds ++ (d ∷ [])) ≡ number w ds * 2 ^ w + d
unfolding number
number_more w [] d = ap (λ (m : ℕ). d * 2 ^ m + 0) (mul-zero w) ∙ omega arith
number_more w (x ∷ ds) d =
    let p : ℕ = 2 ^ (w * length ds) in
    let q : ℕ = 2 ^ w in
    let n : ℕ = x * p in
    let e : x * (p * q) ≡ n * q = sym (mul_assoc x p q) in
    let l : length (ds ++ (d ∷ [])) ≡ suc (length ds) = length-append ds (d ∷ []) ∙ omega arith in
    let g : 2 ^ (w * suc (length ds)) ≡ p * q = ap (λ (m : ℕ). 2 ^ m) (mul-suc w (length ds)) ∙ pow-add 2 (w * length ds) w in
    let m : (n + number w ds) * q ≡ n * q + number w ds * q = add-mul n (number w ds) q in
    ap₂ (λ (k m : ℕ). x * 2 ^ (w * k) + m) l (number_more w ds d)
    ∙ ap (λ (m : ℕ). m + (number w ds * q + d)) (ap (λ (m : ℕ). x * m) g ∙ e) ∙ omega (arith, m)
