-- The value of three symbols at three places is a sum of three terms; taking a place away takes its term away and leaves a factor to the others.
-- Assumes nothing.
use mathlib.Core.List.{List}
use mathlib.Core.Path.{◌≡◌, refl, sym, ap, ap₂, ◌∙◌}
use Prim.Native.Nat.{ℕ, zero, suc, ◌<◌}
use native.Mathlib.Omega.{arith}
use lib.Bits.{bit_xor, xor_self, xor_zero_l}
use Rattle.block.proofs.Xor.{xor_swap}
use Rattle.field16.specs.Words.{a_to, at}
use Rattle.field16.specs.Field.{times, power, inverse_of}
use Rattle.field16.proofs.Elements.{times_comm, times_assoc, times_xor, times_one, times_zero, times_inverse}
use Rattle.field16.proofs.Words.{away, next_sum, xor_twice, times_swap, place_away}

-- y over d times d is y, where d is not 0 or y is
pub over_times : (y d : ℕ) → y < 16 → d < 16 → (d ≡ 0 → y ≡ 0) → times (times y (inverse_of d)) d ≡ y
over_times y zero hy hd f = times_zero (times y (inverse_of 0)) ∙ sym (f refl)
over_times y (suc d) hy hd f =
    sym (times_assoc y (inverse_of (suc d)) (suc d)) ∙ ap (times y) (times_comm (inverse_of (suc d)) (suc d) ∙ times_inverse (suc d) hd (omega arith))
    ∙ times_comm y 1 ∙ times_one y hy

-- a term y z^j after the place x is taken away: y (z + x) z^j
term_away : (y z x P : ℕ) → bit_xor (times y (times z P)) (times x (times y P)) ≡ times (times y (bit_xor z x)) P
term_away y z x P = ap (λ (n : ℕ). bit_xor n (times x (times y P))) (sym (place_away y z x P)) ∙ xor_twice (times (times y (bit_xor z x)) P) (times x (times y P))

-- the term of the place itself is gone
pub term_gone : (y x P : ℕ) → bit_xor (times y (times x P)) (times x (times y P)) ≡ 0
term_gone y x P = ap (bit_xor (times y (times x P))) (times_swap x y P) ∙ xor_self (times y (times x P))

-- the value of a word after the place x is taken away
pub value_away : (x j : ℕ) (w : List ℕ) → at (a_to j) (away x w) ≡ bit_xor (at (a_to (suc j)) w) (times x (at (a_to j) w))
unfolding power
value_away x j w = sym (xor_twice (at (a_to j) (away x w)) (times x (at (a_to j) w))) ∙ ap (λ (n : ℕ). bit_xor n (times x (at (a_to j) w))) (sym (next_sum (a_to j) x w))

module _ (x y z a b c : ℕ) (e : List ℕ) (values : (j : ℕ) → at (a_to j) e ≡ bit_xor (times a (power x j)) (bit_xor (times b (power y j)) (times c (power z j)))) where
  pub once : (j : ℕ) → at (a_to j) (away x e) ≡ bit_xor (times (times b (bit_xor y x)) (power y j)) (times (times c (bit_xor z x)) (power z j))
  unfolding power
  once j =
      let P : ℕ = power x j in
      let Q : ℕ = power y j in
      let R : ℕ = power z j in
      value_away x j e
      ∙ ap₂ (λ (m n : ℕ). bit_xor m (times x n)) (values (suc j)) (values j)
      ∙ ap (bit_xor (bit_xor (times a (times x P)) (bit_xor (times b (times y Q)) (times c (times z R)))))
      (times_xor x (times a P) (bit_xor (times b Q) (times c R)) ∙ ap (bit_xor (times x (times a P))) (times_xor x (times b Q) (times c R)))
      ∙ xor_swap (times a (times x P)) (bit_xor (times b (times y Q)) (times c (times z R))) (times x (times a P)) (bit_xor (times x (times b Q)) (times x (times c R)))
      ∙ ap₂ bit_xor (term_gone a x P) (xor_swap (times b (times y Q)) (times c (times z R)) (times x (times b Q)) (times x (times c R)) ∙ ap₂ bit_xor (term_away b y x Q) (term_away c z x R))
      ∙ xor_zero_l (bit_xor (times (times b (bit_xor y x)) Q) (times (times c (bit_xor z x)) R))

  pub twice : (j : ℕ) → at (a_to j) (away y (away x e)) ≡ times (times (times c (bit_xor z x)) (bit_xor z y)) (power z j)
  unfolding power
  twice j =
      let Q : ℕ = power y j in
      let R : ℕ = power z j in
      let g : ℕ = times b (bit_xor y x) in
      let h : ℕ = times c (bit_xor z x) in
      value_away y j (away x e)
      ∙ ap₂ (λ (m n : ℕ). bit_xor m (times y n)) (once (suc j)) (once j)
      ∙ ap (bit_xor (bit_xor (times g (times y Q)) (times h (times z R)))) (times_xor y (times g Q) (times h R))
      ∙ xor_swap (times g (times y Q)) (times h (times z R)) (times y (times g Q)) (times y (times h R))
      ∙ ap₂ bit_xor (term_gone g y Q) (term_away h z y R) ∙ xor_zero_l (times (times h (bit_xor z y)) R)

pub power_one : (x : ℕ) → x < 16 → power x 1 ≡ x
unfolding power
power_one x h = times_comm x 1 ∙ times_one x h
