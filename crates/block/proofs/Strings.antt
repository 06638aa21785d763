-- Bit strings: what holds of a string holds of its parts, and the value and the division walk along a string part by part.
-- Assumes nothing.
use mathlib.Core.Path.{◌≡◌, refl, sym, ap, ap₂, ◌∙◌, subst}
use mathlib.Core.Bool.{Bool, true, false, ◌&&◌}
use mathlib.Core.List.{List, [], ◌∷◌, ◌++◌, append_assoc, append-nil}
use Prim.Native.Nat.{ℕ, zero, suc, ◌+◌, ◌-◌, ◌*◌, ◌/◌, ◌%◌, ◌^◌, ◌<◌, ◌≤◌}
use native.Mathlib.Nat.{zero-add, add-suc, pow-suc, mod-lt, le_refl, le_of_suc-le-suc, mul-le-mul_right, div-add-mod', zero-div}
use native.Mathlib.Numerals.{add-one}
use native.Mathlib.Omega.{arith}
use borrow.Author.Tests.{lt-ltb, le-ltb, ltb-true}
use lib.Dec.{ltb}
use lib.Pow.{pow_mono, pow_pos}
use lib.ListN.{length, get_or, take, drop, length-append, length-drop, take-append-drop, drop_of_length-le, length-replicate}
use lib.Seq.{drop-cons, drop-drop, take_all}
use lib.Arith.{digits_div, digits_mod}
use lib.Bits.{bit_xor, xor_comm, xor_lt, xor_mod, xor_shr, xor_zero_r, block_half, block_odd}
use Rattle.block.specs.Bits.{Bits, are_bits, zeros, xors, value, value_from, bits_of}
use Rattle.block.specs.Division.{step_bit, remainder_from, remainder}
use Rattle.block.proofs.Linear.{step_lt, rem_xor}
use Rattle.block.proofs.Xor.{xor_cancel}

-- ---- parts

pub next : (s : List ℕ) (i : ℕ) → i < length s → drop i s ≡ get_or s i 0 ∷ drop (i + 1) s
next s i h = rw (add-one, drop-cons s i 0)

pub parts : (s : List ℕ) (i k : ℕ) → drop i s ≡ take k (drop i s) ++ drop (i + k) s
parts s i k = sym (take-append-drop k (drop i s)) ∙ ap (λ (l : List ℕ). take k (drop i s) ++ l) (drop-drop k i s)

pub rest_whole : (s : List ℕ) (i : ℕ) → take (length s - i) (drop i s) ≡ drop i s
rest_whole s i = take_all (length s - i) (drop i s) (omega (arith, length-drop i s))

-- ---- each is 0 or 1

pub bits_at : (s : List ℕ) (i : ℕ) → Bits s → get_or s i 0 < 2
bits_at [] i h = omega arith
bits_at (b ∷ s) zero h = h.0
bits_at (b ∷ s) (suc i) h = bits_at s i h.1

pub bits_drop : (i : ℕ) (s : List ℕ) → Bits s → Bits (drop i s)
bits_drop zero s h = h
bits_drop (suc i) [] h = h
bits_drop (suc i) (b ∷ s) h = bits_drop i s h.1

pub bits_take : (i : ℕ) (s : List ℕ) → Bits s → Bits (take i s)
bits_take zero s h = tt
bits_take (suc i) [] h = tt
bits_take (suc i) (b ∷ s) h = (h.0, bits_take i s h.1)

pub bits_append : (xs ys : List ℕ) → Bits xs → Bits ys → Bits (xs ++ ys)
bits_append [] ys hx hy = hy
bits_append (x ∷ xs) ys hx hy = (hx.0, bits_append xs ys hx.1 hy)

pub bits_zeros : (n : ℕ) → Bits (zeros n)
bits_zeros zero = tt
bits_zeros (suc n) = (omega arith, bits_zeros n)

pub bits_bits_of : (k n : ℕ) → Bits (bits_of k n)
unfolding bits_of
bits_bits_of zero n = tt
bits_bits_of (suc k) n = bits_append (bits_of k (n / 2)) (n % 2 ∷ []) (bits_bits_of k (n / 2)) (omega arith, tt)

pub bits_are : (s : List ℕ) → Bits s → are_bits s ≡ true
bits_are [] h = refl
bits_are (b ∷ s) h = ap (λ (t : Bool). t && are_bits s) (lt-ltb b 2 h.0) ∙ bits_are s h.1

pub not_true : false ≡ true → ⊥
not_true e = let z : ◌≡◌ {A = ℕ} 0 1 = cc in omega arith

pub are_bits_lem : (s : List ℕ) → are_bits s ≡ true → Bits s
are_bits_lem [] h = tt
are_bits_lem (b ∷ s) h = go (ltb b 2) refl (are_bits_lem s)
  where
    go : (t : Bool) → ltb b 2 ≡ t → (are_bits s ≡ true → Bits s) → Bits (b ∷ s)
    go true e f = (ltb-true b 2 e, f (sym (ap (λ (t : Bool). t && are_bits s) e) ∙ h))
    go false e f = absurd (not_true (sym (ap (λ (t : Bool). t && are_bits s) e) ∙ h))

-- the walk of the test along a string: the next bit, a value that is none, and the end
pub are_next : (s : List ℕ) (i : ℕ) → i < length s → get_or s i 0 < 2 → are_bits (drop i s) ≡ are_bits (drop (i + 1) s)
are_next s i h b = ap are_bits (next s i h) ∙ ap (λ (t : Bool). t && are_bits (drop (i + 1) s)) (lt-ltb (get_or s i 0) 2 b)

pub are_not : (s : List ℕ) (i : ℕ) → i < length s → 2 ≤ get_or s i 0 → are_bits (drop i s) ≡ false
are_not s i h b = ap are_bits (next s i h) ∙ ap (λ (t : Bool). t && are_bits (drop (i + 1) s)) (le-ltb (get_or s i 0) 2 b)

pub are_done : (s : List ℕ) (i : ℕ) → length s ≤ i → are_bits (drop i s) ≡ true
are_done s i h = ap are_bits (drop_of_length-le s h)

-- ---- the value

pub val_ge : (bs : List ℕ) (a : ℕ) → a ≤ value_from a bs
unfolding value_from
val_ge [] a = le_refl a
val_ge (b ∷ bs) a = omega (arith, val_ge bs (a * 2 + b))

-- the walk along a string, one bit at a time: the next bit, and the end
pub val_next : (s : List ℕ) (v i : ℕ) → i < length s → value_from v (drop i s) ≡ value_from (v * 2 + get_or s i 0) (drop (i + 1) s)
unfolding value_from
val_next s v i h = ap (value_from v) (next s i h)

pub val_done : (s : List ℕ) (v i : ℕ) → length s ≤ i → value_from v (drop i s) ≡ v
unfolding value_from
val_done s v i h = ap (value_from v) (drop_of_length-le s h)

pub val_append : (xs ys : List ℕ) (a : ℕ) → value_from a (xs ++ ys) ≡ value_from (value_from a xs) ys
unfolding value_from
val_append [] ys a = refl
val_append (x ∷ xs) ys a = val_append xs ys (a * 2 + x)

regroup : (a b p v : ℕ) → (a * 2 + b) * p + v ≡ a * (p * 2) + ((0 * 2 + b) * p + v)
regroup a b p v = omega arith

pub val_from : (bs : List ℕ) (a : ℕ) → value_from a bs ≡ a * 2 ^ length bs + value bs
unfolding value_from
val_from [] a = omega arith
val_from (b ∷ bs) a =
    val_from bs (a * 2 + b) ∙ regroup a b (2 ^ length bs) (value bs)
    ∙ ap₂ (λ (p v : ℕ). a * p + v) (sym (pow-suc 2 (length bs))) (sym (val_from bs (0 * 2 + b)))

pub val_lt : (bs : List ℕ) → Bits bs → value bs < 2 ^ length bs
unfolding value_from
val_lt [] h = omega arith
val_lt (b ∷ bs) h =
    omega (arith, val_from bs (0 * 2 + b), mul-le-mul_right (2 ^ length bs) (le_of_suc-le-suc h.0), val_lt bs h.1, pow-suc 2 (length bs))

-- zeros behind a string move its number up: thirteen are times x^13
pub val_zeros : (k v : ℕ) → value_from v (zeros k) ≡ v * 2 ^ k
unfolding value_from
val_zeros zero v = omega arith
val_zeros (suc k) v = val_zeros k (v * 2 + 0) ∙ rw pow-suc (omega arith)

pub zeros_behind : (s : List ℕ) (k : ℕ) → value (s ++ zeros k) ≡ value s * 2 ^ k
zeros_behind s k = val_append s (zeros k) 0 ∙ val_zeros k (value s)

pub length_bits_of : (k n : ℕ) → length (bits_of k n) ≡ k
unfolding bits_of
length_bits_of zero n = refl
length_bits_of (suc k) n = length-append (bits_of k (n / 2)) (n % 2 ∷ []) ∙ omega (arith, length_bits_of k (n / 2))

pub val_bits_of : (k n : ℕ) → n < 2 ^ k → value (bits_of k n) ≡ n
unfolding bits_of value_from
val_bits_of zero n h = omega arith
val_bits_of (suc k) n h =
    val_append (bits_of k (n / 2)) (n % 2 ∷ []) 0 ∙ ap (λ (x : ℕ). x * 2 + n % 2) (val_bits_of k (n / 2) (omega arith)) ∙ div-add-mod' n 2

-- a string's number is that of its first part above that of its last k bits
module _ (xs ys : List ℕ) (k : ℕ) (l : length ys ≡ k) (h : Bits ys) where
  pub val_join : value (xs ++ ys) ≡ value xs * 2 ^ k + value ys
  val_join = val_append xs ys 0 ∙ val_from ys (value xs) ∙ ap (λ (n : ℕ). value xs * 2 ^ n + value ys) l

  below : value ys < 2 ^ k
  below = subst (λ (n : ℕ). value ys < 2 ^ n) l (val_lt ys h)

  pub val_top : value (xs ++ ys) / 2 ^ k ≡ value xs
  val_top = ap (λ (n : ℕ). n / 2 ^ k) val_join ∙ digits_div (value xs) below

  pub val_low : value (xs ++ ys) % 2 ^ k ≡ value ys
  val_low = ap (λ (n : ℕ). n % 2 ^ k) val_join ∙ digits_mod (value xs) below

pub val_cons : (b : ℕ) (bs : List ℕ) → value (b ∷ bs) ≡ b * 2 ^ length bs + value bs
unfolding value_from
val_cons b bs = let z : 0 * 2 + b ≡ b = omega arith in val_from bs (0 * 2 + b) ∙ ap (λ (n : ℕ). n * 2 ^ length bs + value bs) z

pub bits_of_join : (j k a b : ℕ) → b < 2 ^ k → bits_of (j + k) (a * 2 ^ k + b) ≡ bits_of j a ++ bits_of k b
unfolding bits_of
bits_of_join j zero a b h =
    let e : a * 2 ^ 0 + b ≡ a = omega arith in
    let d : j + 0 ≡ j = omega arith in
    ap₂ bits_of d e ∙ sym (append-nil (bits_of j a))
bits_of_join j (suc k) a b h =
    ap (λ (n : ℕ). bits_of n (a * 2 ^ suc k + b)) (add-suc j k)
    ∙ ap₂ (λ (x y : ℕ). bits_of (j + k) x ++ (y ∷ [])) (block_half a k b) (block_odd a k b)
    ∙ ap (λ (l : List ℕ). l ++ (b % 2 ∷ [])) (bits_of_join j k a (b / 2) (omega arith))
    ∙ append_assoc (bits_of j a) (bits_of k (b / 2)) (b % 2 ∷ [])

-- the j + k lowest bits are the j above the k lowest, and these
pub bits_of_cut : (j k n : ℕ) → bits_of (j + k) n ≡ bits_of j (n / 2 ^ k) ++ bits_of k n
unfolding bits_of
bits_of_cut j k n =
    let b : ℕ = n % 2 ^ k in
    let h : b < 2 ^ k = mod-lt n (pow_pos k) in
    let e : n ≡ n / 2 ^ k * 2 ^ k + b = sym (div-add-mod' n (2 ^ k)) in
    ap (bits_of (j + k)) e ∙ bits_of_join j k (n / 2 ^ k) b h
    ∙ ap (λ (l : List ℕ). bits_of j (n / 2 ^ k) ++ l) (sym (bits_of_join 0 k (n / 2 ^ k) b h) ∙ ap₂ bits_of (zero-add k) (sym e))

-- the highest of the lowest bits stands first
pub bits_of_first : (k n : ℕ) → bits_of (suc k) n ≡ n / 2 ^ k % 2 ∷ bits_of k n
unfolding bits_of
bits_of_first k n = let d : suc k ≡ 1 + k = omega arith in ap (λ (j : ℕ). bits_of j n) d ∙ bits_of_cut 1 k n

-- what stands above the k lowest bits is not among them
pub bits_of_above : (k a b : ℕ) → b < 2 ^ k → bits_of k (a * 2 ^ k + b) ≡ bits_of k b
unfolding bits_of
bits_of_above k a b h = ap (λ (j : ℕ). bits_of j (a * 2 ^ k + b)) (sym (zero-add k)) ∙ bits_of_join 0 k a b h

pub bits_of_mod : (k n : ℕ) → bits_of k (n % 2 ^ k) ≡ bits_of k n
bits_of_mod k n = sym (ap (bits_of k) (sym (div-add-mod' n (2 ^ k))) ∙ bits_of_above k (n / 2 ^ k) (n % 2 ^ k) (mod-lt n (pow_pos k)))

pub val_mod : (k n : ℕ) → value (bits_of k n) ≡ n % 2 ^ k
val_mod k n = ap value (sym (bits_of_mod k n)) ∙ val_bits_of k (n % 2 ^ k) (mod-lt n (pow_pos k))

pub bits_of_none : (k : ℕ) → bits_of k 0 ≡ zeros k
unfolding bits_of
bits_of_none zero = refl
bits_of_none (suc k) = bits_of_first k 0 ∙ ap₂ (λ (b : ℕ) (bs : List ℕ). b ∷ bs) (ap (λ (n : ℕ). n % 2) (zero-div (2 ^ k))) (bits_of_none k)

-- a number moved up has zeros behind its bits
pub bits_of_up : (j k n : ℕ) → bits_of (j + k) (n * 2 ^ k) ≡ bits_of j n ++ zeros k
bits_of_up j k n =
    let e : n * 2 ^ k ≡ n * 2 ^ k + 0 = omega arith in
    ap (bits_of (j + k)) e ∙ bits_of_join j k n 0 (pow_pos k) ∙ ap (λ (l : List ℕ). bits_of j n ++ l) (bits_of_none k)

-- two strings of one length that write the same number are the same
pub val_inj : (xs ys : List ℕ) → Bits xs → Bits ys → length xs ≡ length ys → value xs ≡ value ys → xs ≡ ys
val_inj [] [] hx hy l e = refl
val_inj [] (y ∷ ys) hx hy l e = absurd (omega arith)
val_inj (x ∷ xs) [] hx hy l e = absurd (omega arith)
val_inj (x ∷ xs) (y ∷ ys) hx hy l e =
    let p : ℕ = 2 ^ length xs in
    let k : length ys ≡ length xs = omega arith in
    let hv : value xs < p = val_lt xs hx.1 in
    let hw : value ys < p = subst (λ (n : ℕ). value ys < 2 ^ n) k (val_lt ys hy.1) in
    let d : x * p + value xs ≡ y * p + value ys =
    sym (val_cons x xs) ∙ e ∙ val_cons y ys ∙ ap (λ (n : ℕ). y * 2 ^ n + value ys) k in
    let q : x ≡ y = sym (digits_div x hv) ∙ ap (λ (n : ℕ). n / p) d ∙ digits_div y hw in
    let r : value xs ≡ value ys = sym (digits_mod x hv) ∙ ap (λ (n : ℕ). n % p) d ∙ digits_mod y hw in
    ap₂ (λ (b : ℕ) (bs : List ℕ). b ∷ bs) q (val_inj xs ys hx.1 hy.1 (sym k) r)

pub bits_of_val : (k : ℕ) (bs : List ℕ) → Bits bs → length bs ≡ k → bits_of k (value bs) ≡ bs
bits_of_val k bs h l =
    val_inj (bits_of k (value bs)) bs (bits_bits_of k (value bs)) h (length_bits_of k (value bs) ∙ sym l)
    (val_bits_of k (value bs) (subst (λ (n : ℕ). value bs < 2 ^ n) l (val_lt bs h)))

-- ---- the division

pub rem_append : (xs ys : List ℕ) (r : ℕ) → remainder_from r (xs ++ ys) ≡ remainder_from (remainder_from r xs) ys
unfolding remainder_from
rem_append [] ys r = refl
rem_append (x ∷ xs) ys r = rem_append xs ys (step_bit r x)

-- the walk along a string, one bit at a time: the next bit, and the end
pub rem_next : (s : List ℕ) (r i : ℕ) → i < length s → remainder_from r (drop i s) ≡ remainder_from (step_bit r (get_or s i 0)) (drop (i + 1) s)
unfolding remainder_from
rem_next s r i h = ap (remainder_from r) (next s i h)

pub rem_done : (s : List ℕ) (r i : ℕ) → length s ≤ i → remainder_from r (drop i s) ≡ r
unfolding remainder_from
rem_done s r i h = ap (remainder_from r) (drop_of_length-le s h)

pub rem_lt : (bs : List ℕ) (r : ℕ) → r < 8192 → Bits bs → remainder_from r bs < 8192
unfolding remainder_from
rem_lt [] r hr h = hr
rem_lt (b ∷ bs) r hr h = rem_lt bs (step_bit r b) (step_lt r b hr h.0) h.1

-- what a number's bits leave has thirteen bits
pub thirteen : (k n : ℕ) {r : ℕ} → r ≡ remainder (bits_of k n) → r < 8192
thirteen k n e = rw e (rem_lt (bits_of k n) 0 (omega arith) (bits_bits_of k n))

-- where no x^13 comes up nothing is fed back, and so the remainder is the value
pub step_small : (r b : ℕ) → r * 2 + b < 8192 → step_bit r b ≡ r * 2 + b
unfolding step_bit
step_small r b h = rw (lt-ltb (r * 2 + b) 8192 h)

pub rem_small : (bs : List ℕ) (r : ℕ) → value_from r bs < 8192 → remainder_from r bs ≡ value_from r bs
unfolding remainder_from value_from
rem_small [] r h = refl
rem_small (b ∷ bs) r h =
    ap (λ (q : ℕ). remainder_from q bs) (step_small r b (omega (arith, val_ge bs (r * 2 + b)))) ∙ rem_small bs (r * 2 + b) h

pub length_xors : (xs ys : List ℕ) → length xs ≡ length ys → length (xors xs ys) ≡ length xs
unfolding xors
length_xors [] ys e = refl
length_xors (x ∷ xs) [] e = absurd (omega arith)
length_xors (x ∷ xs) (y ∷ ys) e = ap suc (length_xors xs ys (omega arith))

pub bits_xors : (s e : List ℕ) → Bits s → Bits e → Bits (xors s e)
unfolding xors
bits_xors [] e hs he = tt
bits_xors (b ∷ s) [] hs he = tt
bits_xors (b ∷ s) (c ∷ e) hs he = (xor_lt 1 b c hs.0 he.0, bits_xors s e hs.1 he.1)

pub xors_zeros : (bs : List ℕ) → xors (zeros (length bs)) bs ≡ bs
unfolding xors
xors_zeros [] = refl
xors_zeros (b ∷ bs) = ap (λ (l : List ℕ). b ∷ l) (xors_zeros bs)

pub xors_comm : (xs ys : List ℕ) → xors xs ys ≡ xors ys xs
unfolding xors
xors_comm [] [] = refl
xors_comm [] (y ∷ ys) = refl
xors_comm (x ∷ xs) [] = refl
xors_comm (x ∷ xs) (y ∷ ys) = ap₂ (λ (b : ℕ) (bs : List ℕ). b ∷ bs) (xor_comm x y) (xors_comm xs ys)

-- a string that is added twice goes off again
pub xors_cancel : (u v : List ℕ) → length u ≡ length v → xors u (xors u v) ≡ v
unfolding xors
xors_cancel [] [] e = refl
xors_cancel [] (c ∷ cs) e = absurd (omega arith)
xors_cancel (b ∷ bs) [] e = absurd (omega arith)
xors_cancel (b ∷ bs) (c ∷ cs) e = ap₂ (λ (x : ℕ) (l : List ℕ). x ∷ l) (xor_cancel b c) (xors_cancel bs cs (omega arith))

pub bits_of_xor : (k m n : ℕ) → bits_of k (bit_xor m n) ≡ xors (bits_of k m) (bits_of k n)
unfolding bits_of xors
bits_of_xor zero m n = refl
bits_of_xor (suc k) m n =
    bits_of_first k (bit_xor m n)
    ∙ ap₂ (λ (b : ℕ) (bs : List ℕ). b ∷ bs) (ap (λ (x : ℕ). x % 2) (xor_shr m n k) ∙ xor_mod (m / 2 ^ k) (n / 2 ^ k) 1) (bits_of_xor k m n)
    ∙ sym (ap₂ xors (bits_of_first k m) (bits_of_first k n))

-- the remainder of at most 13 bits is their value
pub rem_val : (bs : List ℕ) → Bits bs → length bs ≤ 13 → remainder bs ≡ value bs
rem_val bs h l = rem_small bs 0 (omega (arith, val_lt bs h, pow_mono l))

-- a number that is a remainder is what its bits leave, however many zeros stand in front
pub rem_number : (k n : ℕ) → n < 2 ^ k → n < 8192 → remainder (bits_of k n) ≡ n
rem_number k n h l = let e : value (bits_of k n) ≡ n = val_bits_of k n h in rem_small (bits_of k n) 0 (rw e l) ∙ e

-- the first thirteen bits fill the register as they are
pub rem_filled : (k n : ℕ) → n / 2 ^ k < 8192 → remainder (bits_of (13 + k) n) ≡ remainder_from (n / 2 ^ k) (bits_of k n)
rem_filled k n h =
    ap remainder (bits_of_cut 13 k n) ∙ rem_append (bits_of 13 (n / 2 ^ k)) (bits_of k n) 0
    ∙ ap (λ (r : ℕ). remainder_from r (bits_of k n)) (rem_number 13 (n / 2 ^ k) h h)

-- what the register holds and what the string brings, apart
pub rem_split : (bs : List ℕ) (r : ℕ) → r < 8192 → Bits bs → remainder_from r bs ≡ bit_xor (remainder_from r (zeros (length bs))) (remainder bs)
rem_split bs r hr h =
    ap₂ remainder_from (sym (xor_zero_r r)) (sym (xors_zeros bs))
    ∙ rem_xor (zeros (length bs)) bs r 0 hr (omega arith) (bits_zeros (length bs)) h (length-replicate (length bs) 0)
