-- The register moves down along a number: a turn takes the bit behind it in where it stands, and leaves those behind that one.
-- Assumes nothing.
use mathlib.Core.Bool.{Bool, true, false}
use mathlib.Core.Path.{◌≡◌, refl, sym, ap, ap₂, ◌∙◌}
use Prim.Native.Nat.{ℕ, zero, suc, ◌+◌, ◌-◌, ◌*◌, ◌/◌, ◌%◌, ◌^◌, ◌<◌, ◌≤◌}
use native.Mathlib.Nat.{add-zero, suc-mul, mod-lt, div-add-mod', mul-le-mul_right}
use native.Mathlib.Numerals.{add-one}
use native.Mathlib.Omega.{arith}
use borrow.Author.Tests.{le-ltb, ltb-true, ltb-false}
use lib.Bits.{bit_xor, xor_block, xor_shr, xor_zero_r}
use lib.Dec.{ltb}
use lib.Pow.{pow_pos, shr-shr, split, high, low}
use Rattle.block.specs.Bits.{bits_of}
use Rattle.block.specs.Division.{generator, reduce, step_bit, remainder_from}
use Rattle.block.proofs.Linear.{reduce_lt}
use Rattle.block.proofs.Strings.{bits_of_first, bits_of_mod}

-- what feeding back makes of a number with k bits behind the register
abbrev fed_back : ℕ → ℕ → ℕ
fed_back k n = reduce (n / 2 ^ k) * 2 ^ k + n % 2 ^ k

module _ (k n : ℕ) where
  abbrev q : ℕ
  q = n / 2 ^ k

  abbrev added : ℕ
  added = bit_xor q generator

  -- the generator is added above the bits that stand behind
  above : bit_xor n (generator * 2 ^ k) ≡ added * 2 ^ k + n % 2 ^ k
  above = rw (split n k, add-zero, xor_zero_r) at (xor_block k q generator (n % 2 ^ k) 0 (mod-lt n (pow_pos k)) (pow_pos k))

  -- where no x^13 has come up that puts one in, and else takes it off
  puts_in : q < 8192 → 8192 ≤ added
  puts_in h =
      let none : q / 2 ^ 13 ≡ 0 = omega arith in
      let one : added / 2 ^ 13 ≡ 1 = xor_shr q generator 13 ∙ ap (λ (m : ℕ). bit_xor m 1) none in
      omega arith

  takes_off : 8192 ≤ q → q < 16384 → added < 8192
  unfolding reduce
  takes_off h out = rw (le-ltb q 8192 h) at (reduce_lt q out)

  -- so the number becomes smaller exactly where the circuit feeds back
  pub fed : q < 16384 → bit_xor n (generator * 2 ^ k) < n → bit_xor n (generator * 2 ^ k) ≡ fed_back k n
  unfolding reduce
  fed out h = go (ltb q 8192) refl
    where
      go : (t : Bool) → ltb q 8192 ≡ t → bit_xor n (generator * 2 ^ k) ≡ fed_back k n
      go true e =
          let more : q ≤ added = omega (arith, puts_in (ltb-true q 8192 e), ltb-true q 8192 e) in
          absurd (omega (arith, above, split n k, mul-le-mul_right (2 ^ k) more))
      go false e = rw e above

  pub not_fed : q < 16384 → n ≤ bit_xor n (generator * 2 ^ k) → n ≡ fed_back k n
  unfolding reduce
  not_fed out h = go (ltb q 8192) refl
    where
      go : (t : Bool) → ltb q 8192 ≡ t → n ≡ fed_back k n
      go true e = rw e (sym (split n k))
      go false e =
          let less : suc added ≤ q = omega (arith, takes_off (ltb-false q 8192 e) out, ltb-false q 8192 e) in
          absurd (omega (arith, above, split n k, mul-le-mul_right (2 ^ k) less, suc-mul added (2 ^ k), pow_pos k))

  -- where the register holds less than x^13 before the turn it does so after it, and the division goes on to the same end
  module _ (m : ℕ) (h : n / 2 ^ suc k < 8192) (e : m ≡ fed_back k n) where
    top : n / 2 ^ suc k * 2 + n / 2 ^ k % 2 ≡ n / 2 ^ k
    top =
        let half : n / 2 ^ suc k ≡ n / 2 ^ k / 2 = sym (rw (add-one k) at (shr-shr n k 1)) in
        rw half (div-add-mod' (n / 2 ^ k) 2)

    register : m / 2 ^ k ≡ reduce (n / 2 ^ k)
    register = rw e (high (reduce (n / 2 ^ k)) k (mod-lt n (pow_pos k)))

    behind : bits_of k m ≡ bits_of k n
    behind = sym (bits_of_mod k m) ∙ ap (bits_of k) (rw e (low (reduce (n / 2 ^ k)) k (mod-lt n (pow_pos k)))) ∙ bits_of_mod k n

    turned : (m / 2 ^ k < 8192) × (remainder_from (m / 2 ^ k) (bits_of k m) ≡ remainder_from (n / 2 ^ suc k) (bits_of (suc k) n))
    unfolding remainder_from step_bit
    turned =
        let out : n / 2 ^ k < 16384 = omega (arith, top) in (
          rw register (reduce_lt (n / 2 ^ k) out),
          ap₂ remainder_from register behind
              ∙ sym (ap (remainder_from (n / 2 ^ suc k)) (bits_of_first k n) ∙ ap (λ (q : ℕ). remainder_from (reduce q) (bits_of k n)) top),
        )

-- the same, by the bits that stood behind before the turn
pub along : (b n m : ℕ) → 0 < b → n / 2 ^ b < 8192 → m ≡ fed_back (b - 1) n
    → (m / 2 ^ (b - 1) < 8192) × (remainder_from (m / 2 ^ (b - 1)) (bits_of (b - 1) m) ≡ remainder_from (n / 2 ^ b) (bits_of b n))
along zero n m p h e = absurd (omega arith)
along (suc k) n m p h e = let d : suc k - 1 ≡ k = omega arith in rw d (turned k n m h (rw d at e))

-- and before the turn the register holds less than x^14 with the bit that is let in
pub moved_lt : (b n : ℕ) → 0 < b → n / 2 ^ b < 8192 → n / 2 ^ (b - 1) < 16384
moved_lt zero n p h = absurd (omega arith)
moved_lt (suc k) n p h =
    let d : suc k - 1 ≡ k = omega arith in
    let half : n / 2 ^ suc k ≡ n / 2 ^ k / 2 = sym (rw (add-one k) at (shr-shr n k 1)) in
    rw d (omega (arith, half))
