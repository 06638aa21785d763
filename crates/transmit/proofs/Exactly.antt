-- Exactly as many blocks are damaged as are to be: while those are no more than the blocks that are left, they stay so.
-- Assumes nothing.
use mathlib.Core.Bool.{Bool, true, false, cond}
use mathlib.Core.Path.{◌≡◌, refl, ap, ◌∙◌}
use Prim.Native.Nat.{ℕ, zero, suc, ◌+◌, ◌-◌, ◌/◌, ◌^◌, ◌≤◌, ◌<◌}
use native.Mathlib.Nat.{mod-lt}
use native.Mathlib.Omega.{arith}
use Rattle.std.specs.Prelude.{IsSomeAnd}
use borrow.Author.Tests.{ltb-true, ltb-false, ne_eqb}
use Rattle.transmit.specs.Blocks.{is_damaged, place_of, after_of, damaged_in, ExactlyDamaged}
use Rattle.transmit.specs.Chance.{stepped_of, drawn_of}
use Rattle.transmit.specs.declared.blocks.Left.{Left}

drawn_below : (s bound : ℕ) → 0 < bound → drawn_of s bound < bound
unfolding drawn_of
drawn_below s bound h = let n : bound ≡ 0 → ⊥ = λ e. omega arith in rw (ne_eqb bound 0 n) (mod-lt (s / 2 ^ 32) h)

-- a block that is damaged has the bit at one of its fifty places exchanged
pub damaged_place : (left : Left) → is_damaged left ≡ true → IsSomeAnd (place_of left) (λ place. place < 50)
unfolding place_of
damaged_place left d = rw d (drawn_below (stepped_of left.chance / 2 ^ 16) 50 (omega arith))

module _ (left : Left) (k : ℕ) (blocks : left.blocks ≡ suc k) (few : left.damaged ≤ suc k) where
  after_one : (t : Bool) → is_damaged left ≡ t
      → (cond t 1 0 + cond t (left.damaged - 1) left.damaged ≡ left.damaged) × (cond t (left.damaged - 1) left.damaged ≤ k)
  unfolding is_damaged
  after_one true d =
      let l : drawn_of (stepped_of left.chance) left.blocks < left.damaged = ltb-true _ _ d in
      (omega arith, omega arith)
  after_one false d =
      let l : left.damaged ≤ drawn_of (stepped_of left.chance) left.blocks = ltb-false _ _ d in
      let b = drawn_below (stepped_of left.chance) left.blocks (omega arith) in
      (omega arith, omega arith)

exactly : (k : ℕ) (left : Left) → left.blocks ≡ k → left.damaged ≤ k → damaged_in k left ≡ left.damaged
unfolding damaged_in after_of
exactly zero left e h = omega arith
exactly (suc k) left e h =
    let after = after_one left k e h (is_damaged left) refl in
    ap (λ (n : ℕ). cond (is_damaged left) 1 0 + n) (exactly k (after_of left) (omega arith) after.1) ∙ after.0

pub exactly_damaged : ExactlyDamaged
exactly_damaged left h = exactly left.blocks left refl h
