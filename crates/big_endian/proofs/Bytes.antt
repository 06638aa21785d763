-- Bytes as a number: what eight of them write fits, and a byte behind others.
-- Assumes nothing.
use Rattle.std.proofs.Common.{◌≡◌, ℕ, suc, ◌+◌, ◌-◌, ◌*◌, ◌/◌, ◌%◌, ◌^◌, ◌<◌, ◌≤◌, List, [], ◌∷◌, ◌++◌, length, get_or, take, drop, sym, ap, ap₂, ◌∙◌, add-one, mod-eq_of_lt, div-one, arith, length-take, length-drop, drop_of_length-le, drop-cons, take_all, take-suc, pow_mono, le-leb, w64}
use Rattle.std.specs.Int.{from_be_bytes, to_be_bytes}
use borrow.Rule.Slice.PartMut.{mid_of, put_mid, mid_len, Post-is}
use lib.Pow.{mod-mod-pow, mod-pow-add, high, low}
use Rattle.big_endian.specs.Bytes.{Told, kept_behind, number_at}
use Rattle.big_endian.specs.Digits.{digits, number}
use Rattle.big_endian.proofs.Digits.{Below, number_lt, number_more}

-- nothing of up to eight bytes is lost
pub whole : {bytes : List ℕ} {n : ℕ} → Told bytes n → length bytes ≤ 8 → n ≡ number 8 bytes
whole {bytes} told h =
    let l : 8 * length bytes ≤ 64 = omega arith in
    told.kept ∙ mod-eq_of_lt (omega (arith, told.fits, pow_mono l))

-- the number of a part of some bytes
module _ (s : List ℕ) (k i : ℕ) (inside : k + i ≤ length s) where
  pub part_length : length (take k (drop i s)) ≡ k
  part_length = simp (length-take, length-drop) (omega arith)

  pub told_part : {n : ℕ} → Told (take k (drop i s)) n → k ≤ 8 → (n ≡ number 8 (take k (drop i s))) × (n < 2 ^ (8 * k))
  told_part told h =
      let all = whole told (omega (arith, part_length)) in
      (all, rw all (rw part_length at told.fits))

-- eight bytes, as the library reads them into a number
module _ (bytes : List ℕ) (size : length bytes ≡ 8) where
  from_place : (i : ℕ) → i < 8 → number 8 (drop i bytes) ≡ get_or bytes i 0 * 2 ^ (8 * (7 - i)) + number 8 (drop (i + 1) bytes)
  unfolding number
  from_place i h =
      let inside : i < length bytes = omega arith in
      let k : length (drop (suc i) bytes) ≡ 7 - i = simp length-drop (omega arith) in
      rw (add-one, drop-cons bytes i 0 inside, k)

  pub eight_read : from_be_bytes w64 bytes ≡ number 8 bytes
  unfolding number
  eight_read =
      let none : number 8 (drop 8 bytes) ≡ 0 = rw (drop_of_length-le bytes {i = 8} (omega arith)) in
      omega (arith, from_place 0 (omega arith), from_place 1 (omega arith), from_place 2 (omega arith), from_place 3 (omega arith), from_place 4 (omega arith), from_place 5 (omega arith), from_place 6 (omega arith), from_place 7 (omega arith), none)

-- and as it writes one into them
pub eight_written : (n : ℕ) → to_be_bytes w64 n ≡ digits 8 8 n
unfolding digits
eight_written n =
    ap (λ (m : ℕ). n / 256 ^ 7 % 256 ∷ n / 256 ^ 6 % 256 ∷ n / 256 ^ 5 % 256 ∷ n / 256 ^ 4 % 256 ∷ n / 256 ^ 3 % 256 ∷ n / 256 ^ 2 % 256 ∷ n / 256 ^ 1 % 256 ∷ m % 256 ∷ []) (sym (div-one n))

-- eight bytes from a place on
module _ (s : List ℕ) (at : ℕ) (inside : at + 8 ≤ length s) where
  eight : at + 8 - at ≡ 8
  eight = omega arith

  pub number_there : number_at s at ≡ number 8 (take 8 (drop at s))
  unfolding number_at
  number_there = rw (le-leb (at + 8) (length s) inside)

  -- what is told of these eight bytes, by all of them and by their number
  pub whole_there : {n : ℕ} → Told (take (at + 8 - at) (drop at s)) n → n ≡ number 8 (take 8 (drop at s))
  whole_there told = (told_part s 8 at (omega arith) (rw eight at told) (omega arith)).0

  pub part_told : {n : ℕ} → Told (take (at + 8 - at) (drop at s)) n → n ≡ number_at s at
  part_told told = whole_there told ∙ sym number_there

-- the first eight of the bytes from a place on
pub first_there : (s : List ℕ) (at : ℕ) {rest eight : List ℕ} {n : ℕ} → rest ≡ take (length s - at) (drop at s) → length rest + at ≡ length s → 8 ≤ length rest
    → eight ≡ take 8 rest → n ≡ from_be_bytes w64 eight → n ≡ number_at s at
first_there s at {rest} {eight} is size enough first read =
    let all : rest ≡ drop at s = is ∙ take_all (length s - at) (drop at s) (omega (arith, length-drop at s)) in
    let there : eight ≡ take 8 (drop at s) = first ∙ ap (take 8) all in
    let long : length (take 8 (drop at s)) ≡ 8 = part_length s 8 at (omega arith) in
    read ∙ rw there (eight_read (take 8 (drop at s)) long) ∙ sym (number_there s at (omega arith))

-- a number put into k bytes from a place on
pub put_part : (s : List ℕ) (at k n : ℕ) {ys : List ℕ} → at + k ≤ length s → ys ≡ digits 8 (length (mid_of at (at + k - at) s)) n
    → put_mid at (at + k - at) s ys ≡ take at s ++ (digits 8 k n ++ drop (at + k) s)
put_part s at k n inside is =
    let d : at + k - at ≡ k = omega arith in
    let l : length (mid_of at (at + k - at) s) ≡ k = mid_len at (at + k) s inside ∙ d in
    ap₂ (λ (ys rest : List ℕ). take at s ++ (ys ++ rest)) (is ∙ ap (λ (m : ℕ). digits 8 m n) l) (Post-is at (at + k) s (omega arith))

-- the next byte comes in below what is kept
pub kept_more : (n byte : ℕ) → byte < 256 → kept_behind (n % 2 ^ 64) byte ≡ (n * 256 + byte) % 2 ^ 64
kept_more n byte h =
    let m : ℕ = n * 2 ^ 8 + byte in
    ap (λ (k : ℕ). k * 256 + byte) (mod-mod-pow n 8 56)
    ∙ sym (mod-pow-add m 56 8 ∙ ap (λ (k : ℕ). k % 2 ^ 56 * 2 ^ 8 + m % 2 ^ 8) (high n 8 h) ∙ ap (λ (k : ℕ). n % 2 ^ 56 * 2 ^ 8 + k) (low n 8 h))

-- what i bytes write, and what one more makes of it
module _ (bytes : List ℕ) (i : ℕ) (h : i < length bytes) where
  pub number_next : number 8 (take (i + 1) bytes) ≡ number 8 (take i bytes) * 256 + get_or bytes i 0
  number_next =
      let e : i + 1 ≡ suc i = omega arith in
      ap (λ (k : ℕ). number 8 (take k bytes)) e ∙ ap (number 8) (take-suc bytes i 0 h) ∙ number_more 8 (take i bytes) (get_or bytes i 0)

  -- what is kept of them
  pub kept_next : get_or bytes i 0 < 256 → {n more : ℕ} → n ≡ number 8 (take i bytes) % 2 ^ 64 → more ≡ kept_behind n (get_or bytes i 0)
      → more ≡ number 8 (take (i + 1) bytes) % 2 ^ 64
  kept_next b {n} {more} is next =
      next ∙ ap (λ (k : ℕ). kept_behind k (get_or bytes i 0)) is ∙ kept_more (number 8 (take i bytes)) (get_or bytes i 0) b ∙ ap (λ (k : ℕ). k % 2 ^ 64) (sym number_next)

-- ---- all of them

-- each byte has eight bits
abbrev Each : List ℕ → Type 0
Each bytes = (i : ℕ) → get_or bytes i 0 < 256

below_each : (bytes : List ℕ) → Each bytes → Below 256 bytes
below_each [] h = tt
below_each (byte ∷ bytes) h = (h 0, below_each bytes (λ i. h (suc i)))

module _ (bytes : List ℕ) (each : Each bytes) {n : ℕ} where
  pub all_told : (i : ℕ) → length bytes ≤ i → n ≡ number 8 (take i bytes) % 2 ^ 64 → Told bytes n
  all_told i h is =
      record {
        kept = is ∙ ap (λ (t : List ℕ). number 8 t % 2 ^ 64) (take_all i bytes h);
        fits = number_lt 8 bytes (below_each bytes each);
      }

  pub eight_all : length bytes ≡ 8 → n ≡ number 8 bytes → Told bytes n
  eight_all size is =
      let fits : number 8 bytes < 2 ^ (8 * length bytes) = number_lt 8 bytes (below_each bytes each) in
      record { kept = is ∙ sym (mod-eq_of_lt (rw size at fits)); fits = fits }
