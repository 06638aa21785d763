-- Six bits in two's complement and the numbers from -32 to 31: as the machine's bytes compute them, and there and back.
-- Assumes nothing.
use Prim.Native.Nat.{ℕ, suc, ◌<◌, ◌≤◌, ◌-◌, ◌^◌}
use native.Mathlib.Omega.{arith}
use mathlib.Core.Path.{◌≡◌, refl}
use mathlib.Core.Bool.{Bool, true, false, cond, and-eq-true_iff}
use borrow.Author.Tests.{lt-ltb, le-ltb, ltb-true, leb-true}
use lib.Dec.{T, ltb, leb}
use lib.IntN.{ℤ, pos, negsuc, ◌-ℤ◌, ◌+ℤ◌, nat_abs}
use lib.Signed.{mag, lt_z, le_z, non_neg}
use mir.Facts.{to_z-of_z}
use mir.Val.{to_z, of_z, SFits, Fits}
use mir.Syntax.{w8}
use Rattle.record.specs.Fields.{offset_of, six_of}
use Rattle.record.specs.Ranges.{offset_in_range}

-- a number that fits a signed byte, written to it and read back; what a proof knows of a struct's fields is a tuple, in which
-- the offset stands last: seventh of a record, sixth of a date
pub back : {z : ℤ} → mag z < 2 ^ 7 → to_z w8 (of_z w8 z) ≡ z
back h = to_z-of_z {w = w8} (record { sfits = h })

-- ---- from six bits

pub low : (n : ℕ) → n < 32 → to_z w8 n ≡ offset_of n
unfolding offset_of
low n h = rw (lt-ltb n (2 ^ 7) (omega arith), lt-ltb n 32 h)

pub high : (n : ℕ) → 32 ≤ n → n < 64 → to_z w8 n -ℤ pos 64 ≡ offset_of n
unfolding offset_of
high n h k =
    let e : 64 - suc n ≡ 63 - n = omega arith in
    rw (lt-ltb n (2 ^ 7) (omega arith), le-ltb n 32 h, lt-ltb n 64 k, e)

pub offset_fits : (n : ℕ) → n < 64 → SFits w8 (offset_of n)
unfolding offset_of
offset_fits n k = either (ltb n 32) (omega arith) (omega arith)
  where
    either : {a b : ℕ} (t : Bool) → a < 128 → b < 128 → SFits w8 (cond t (pos a) (negsuc b))
    either true p q = record { sfits = p }
    either false p q = record { sfits = q }

-- ---- the range, tested on the byte that holds the number

pub in_yes : {z : ℤ} → SFits w8 z → le_z (negsuc 31) (to_z w8 (of_z w8 z)) ≡ true → le_z (to_z w8 (of_z w8 z)) (pos 31) ≡ offset_in_range z
unfolding offset_in_range
in_yes {z} f h = rw (to_z-of_z f) (rw (rw (to_z-of_z f) at h))

pub in_no : {z : ℤ} → SFits w8 z → le_z (negsuc 31) (to_z w8 (of_z w8 z)) ≡ false → false ≡ offset_in_range z
unfolding offset_in_range
in_no {z} f h = rw (rw (to_z-of_z f) at h)

-- ---- to six bits

-- what the walk of `six_of` asks of a byte whose number is `pos n`
abbrev Read : ℤ → ℕ → Type 0
Read y n = (T (non_neg (to_z w8 (of_z w8 y))) × Fits w8 (nat_abs (to_z w8 (of_z w8 y)))) × (nat_abs (to_z w8 (of_z w8 y)) ≡ n)

reads : {y : ℤ} {n : ℕ} → y ≡ pos n → n < 64 → SFits w8 y × Read y n
reads {y} {n} e h = rw e (record { sfits = omega arith }, rw (lt-ltb n 128 (omega arith)) ((tt, record { fits = omega arith }), refl))

pub six_fits : (z : ℤ) → offset_in_range z ≡ true → six_of z < 64
unfolding offset_in_range six_of
six_fits (pos n) r = omega (arith, leb-true n 31 r)
six_fits (negsuc n) r = omega arith

below_zero : (z : ℤ) → offset_in_range z ≡ true → lt_z z (pos 0) ≡ true → z +ℤ pos 64 ≡ pos (six_of z)
unfolding offset_in_range six_of
below_zero (pos n) r h = absurd (omega (arith, ltb-true n 0 h))
below_zero (negsuc n) r h =
    let k : n ≤ 31 = leb-true n 31 ((and-eq-true_iff (leb n 31) true).0 r).0 in
    let e : 64 - suc n ≡ 63 - n = omega arith in
    rw (le-ltb 64 (suc n) (omega arith), e)

not_below : (z : ℤ) → lt_z z (pos 0) ≡ false → z ≡ pos (six_of z)
unfolding six_of
not_below (pos n) h = refl
not_below (negsuc n) h = let z : ◌≡◌ {A = ℕ} 0 1 = cc in absurd (omega arith)

module _ {z : ℤ} (f : SFits w8 z) (r : offset_in_range z ≡ true) where
  pub negative : lt_z (to_z w8 (of_z w8 z)) (pos 0) ≡ true → SFits w8 (to_z w8 (of_z w8 z) +ℤ pos 64) × Read (to_z w8 (of_z w8 z) +ℤ pos 64) (six_of z)
  negative h = rw (to_z-of_z f) (reads (below_zero z r (rw (to_z-of_z f) at h)) (six_fits z r))

  pub positive : lt_z (to_z w8 (of_z w8 z)) (pos 0) ≡ false → Read z (six_of z)
  positive h = (reads (not_below z (rw (to_z-of_z f) at h)) (six_fits z r)).1
