-- A turn backwards undoes a turn with a 0: the generator is odd, so the lowest place says whether the wires brought it.
-- Assumes nothing.
use mathlib.Core.Path.{◌≡◌, refl, sym, ap, ap₂, ◌∙◌}
use Prim.Native.Nat.{ℕ, ◌+◌, ◌*◌, ◌/◌, ◌%◌, ◌<◌, ◌≤◌}
use native.Mathlib.Decide.{dec_le}
use native.Mathlib.Numerals.{add-one}
use native.Mathlib.Omega.{arith}
use lib.Bits.{bit_xor, xor_comm, xor_mod, xor_shr}
use Rattle.block.specs.Division.{generator, step_bit, remainder_from}
use Rattle.block.proofs.Linear.{step_is}
use Rattle.block.proofs.Strings.{step_small}
use Rattle.block.proofs.Zeros.{up, up_same}
use Rattle.block.proofs.Xor.{on_bit, xor_cancel}

module _ (r : ℕ) (h : r < 8192) where
  -- what the wires brought
  abbrev brought : ℕ
  brought = r % 2 * generator

  even : bit_xor r brought % 2 ≡ 0
  even = xor_mod r brought 1 ∙ on_bit (λ b. bit_xor b (b * generator % 2) ≡ 0) refl refl (r % 2) (omega arith)

  top : bit_xor r brought / 8192 ≡ r % 2
  top =
      let none : r / 8192 ≡ 0 = omega arith in
      xor_shr r brought 13 ∙ ap (λ (n : ℕ). bit_xor n (brought / 8192)) none
      ∙ on_bit (λ b. bit_xor 0 (b * generator / 8192) ≡ b) refl refl (r % 2) (omega arith)

  -- the same half, each part by itself
  halves : bit_xor (r / 2) (r % 2 * (generator / 2)) ≡ bit_xor r brought / 2
  halves = ap (bit_xor (r / 2)) (on_bit (λ b. b * (generator / 2) ≡ b * generator / 2) refl refl (r % 2) (omega arith)) ∙ sym (xor_shr r brought 1)

  pub back : (step_bit (bit_xor (r / 2) (r % 2 * (generator / 2))) 0 ≡ r) × (bit_xor (r / 2) (r % 2 * (generator / 2)) < 8192)
  back =
      let n : ℕ = bit_xor r brought in
      let small : n / 2 < 8192 = omega (arith, top) in
      let whole : n / 2 * 2 + 0 ≡ n = omega (arith, even) in
      rw halves (
        step_is (n / 2) 0 small (omega arith)
            ∙ ap₂ bit_xor whole (ap (λ (m : ℕ). m / 8192 * generator) whole ∙ ap (λ (b : ℕ). b * generator) top)
            ∙ xor_comm n brought ∙ ap (bit_xor brought) (xor_comm r brought) ∙ xor_cancel brought r,
        small,
      )

-- what did not fit in six places before the turn back fills five of them after it
pub filled : (r s : ℕ) → step_bit s 0 ≡ r → 64 ≤ r → 32 ≤ s
filled r s e h = elim (dec_le 32 s) [ yes l ↦ l | no l ↦ absurd (omega (arith, step_small s 0 (omega arith))) ]

-- so the turns forth go one further, to the same end
pub further : (n r s left : ℕ) → step_bit s 0 ≡ r → up n r ≡ left → up (n + 1) s ≡ left
unfolding remainder_from
further n r s left e d = rw (add-one n) (ap (up n) e ∙ d)

-- and where what is left does not fit in six places, nothing that fits gives it
pub unfit : (n r left : ℕ) → r < 8192 → up n r ≡ left → 64 ≤ r → (w : ℕ) → w < 64 → up n w ≡ left → ⊥
unfit n r left h e g w l d = omega (arith, up_same n w r (omega arith) h (d ∙ sym e))
