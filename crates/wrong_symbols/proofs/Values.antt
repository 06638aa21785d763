-- Each symbol that is computed gives back the number that it was computed from.
-- Assumes nothing.
use mathlib.Core.List.{List}
use mathlib.Core.Path.{◌≡◌, sym, ap, ap₂, ◌∙◌}
use Prim.Native.Nat.{ℕ, ◌<◌}
use native.Mathlib.Omega.{arith}
use lib.Bits.{bit_xor, xor_comm, xor_lt}
use lib.ListN.{get_or}
use Rattle.block.proofs.Xor.{xor_eq}
use Rattle.field16.specs.Field.{times, power}
use Rattle.field16.proofs.Elements.{times_lt, times_comm, times_assoc}
use Rattle.field16.proofs.Words.{xor_twice}
use Rattle.field16.proofs.Distance.{positive, times_pos}
use Rattle.wrong_symbols.specs.Search.{last_of, middle_of, first_of}
use Rattle.wrong_symbols.proofs.Terms.{over_times, power_one}
use Rattle.wrong_symbols.proofs.Fitting.{Fitting, empty, third}

-- two elements that differ have a sum that is not 0
sum_pos : (a b : ℕ) → (a ≡ b → ⊥) → 0 < bit_xor a b
sum_pos a b f = positive (bit_xor a b) (λ e. f (xor_eq a b e))

module _ (x y z : ℕ) (hx : x < 16) (hy : y < 16) (hz : z < 16) where
  xor16 : (a b : ℕ) → a < 16 → b < 16 → bit_xor a b < 16
  xor16 a b = xor_lt 4 a b

  -- each symbol gives back the number that it was computed from
  pub last_back : (u c : ℕ) (us : List ℕ) → u < 16 → get_or us 0 0 ≡ u → Fitting x y z us → c ≡ last_of x y z u → times (times (times c (bit_xor z x)) (bit_xor z y)) (power z 1) ≡ u
  last_back u c us hu e f g =
      let d : ℕ = times z (times (bit_xor z x) (bit_xor z y)) in
      ap (times (times (times c (bit_xor z x)) (bit_xor z y))) (power_one z hz)
      ∙ ap (λ (n : ℕ). times n z) (sym (times_assoc c (bit_xor z x) (bit_xor z y))) ∙ sym (times_assoc c (times (bit_xor z x) (bit_xor z y)) z)
      ∙ ap₂ times g (times_comm (times (bit_xor z x) (bit_xor z y)) z)
      ∙ over_times u d hu (times_lt z (times (bit_xor z x) (bit_xor z y))) (not_gone f)
    where
      not_gone : Fitting x y z us → times z (times (bit_xor z x) (bit_xor z y)) ≡ 0 → u ≡ 0
      not_gone (empty k h) _ = sym e ∙ h
      not_gone (third p h k) m =
          absurd (omega (
            arith,
            times_pos z (times (bit_xor z x) (bit_xor z y)) hz (times_lt (bit_xor z x) (bit_xor z y)) p
                (times_pos (bit_xor z x) (bit_xor z y) (xor16 z x hz hx) (xor16 z y hz hy) (sum_pos z x h) (sum_pos z y k)),
          ))

  pub middle_back : (t b c : ℕ) → t < 16 → 0 < y → (y ≡ x → ⊥) → b ≡ middle_of x y z t c
      → bit_xor (times (times b (bit_xor y x)) (power y 1)) (times (times c (bit_xor z x)) (power z 1)) ≡ t
  middle_back t b c ht py f g =
      let q : ℕ = times c (times z (bit_xor z x)) in
      let d : ℕ = times y (bit_xor y x) in
      ap₂ bit_xor
      (ap (times (times b (bit_xor y x))) (power_one y hy) ∙ sym (times_assoc b (bit_xor y x) y) ∙ ap₂ times g (times_comm (bit_xor y x) y)
      ∙ over_times (bit_xor t q) d (xor16 t q ht (times_lt c (times z (bit_xor z x)))) (times_lt y (bit_xor y x))
      (λ m. absurd (omega (arith, times_pos y (bit_xor y x) hy (xor16 y x hy hx) py (sum_pos y x f)))))
      (ap (times (times c (bit_xor z x))) (power_one z hz) ∙ sym (times_assoc c (bit_xor z x) z) ∙ ap (times c) (times_comm (bit_xor z x) z))
      ∙ xor_twice t q

  pub first_back : (s a b c : ℕ) → s < 16 → 0 < x → a ≡ first_of x y z s b c
      → bit_xor (times a (power x 1)) (bit_xor (times b (power y 1)) (times c (power z 1))) ≡ s
  first_back s a b c hs px g =
      let q : ℕ = bit_xor (times c z) (times b y) in
      ap₂ bit_xor
      (ap₂ times g (power_one x hx) ∙ over_times (bit_xor s q) x (xor16 s q hs (xor16 (times c z) (times b y) (times_lt c z) (times_lt b y))) hx (λ m. absurd (omega arith)))
      (ap₂ (λ (m n : ℕ). bit_xor (times b m) (times c n)) (power_one y hy) (power_one z hz) ∙ xor_comm (times b y) (times c z))
      ∙ xor_twice s q
