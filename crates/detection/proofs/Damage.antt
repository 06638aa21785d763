-- Damage: a good block that is changed leaves what the changes leave, by linearity; so between two good blocks they leave no remainder,
-- and none of the four kinds of damage does that.
-- Assumes nothing.
use mathlib.Core.Bool.{cond}
use mathlib.Core.List.{List, [], ◌∷◌}
use mathlib.Core.Logic.{inl, inr, ⊎_elim}
use mathlib.Core.Path.{◌≡◌, refl, sym, ap, ◌∙◌}
use Prim.Native.Nat.{ℕ, zero, suc, ◌-◌, ◌≤◌}
use native.Mathlib.Omega.{arith}
use lib.Bits.{bit_xor}
use lib.Dec.{eqb}
use lib.ListN.{length, drop}
use Rattle.block.specs.Bits.{Bits, xors}
use Rattle.block.specs.Block.{Good, prefix_in}
use Rattle.block.specs.Division.{step_bit, remainder_from, remainder}
use Rattle.block.specs.Read.{read_of, refusal_in, remainder_read}
use Rattle.block.proofs.Xor.{on_bit, xor_cancel}
use Rattle.block.proofs.Linear.{rem_xor}
use Rattle.block.proofs.Strings.{bits_are, bits_at, bits_xors, length_xors}
use Rattle.block.proofs.CheckWord.{good_rem}
use Rattle.block.proofs.Reading.{wrong_prefix}
use Rattle.block.proofs.Told.{told_is}
use Rattle.detection.specs.Damage.{Among, weight, Pattern, Damage, few, odd, burst, groups, refused_with, DamageRefused, DamageTold}
use Rattle.detection.proofs.Odd.{not_odd}
use Rattle.detection.proofs.Places.{only}
use Rattle.detection.proofs.Burst.{not_burst}
use Rattle.detection.proofs.Groups.{not_groups}
use Rattle.detection.proofs.Refusal.{refused}

-- ---- the kinds

-- counted from the second place on
down : {a n k : ℕ} → Among a n (suc k) → Among (a - 1) n k
down i = record { from = omega arith; to = omega arith }

-- a first place that is not changed may be left out
later : (e : List ℕ) → Damage (0 ∷ e) → Damage e
later e (few w) = few (omega arith)
later e (odd w) = odd (omega arith)
later e (burst a f) = burst (a - 1) (λ k c. down (f (suc k) c))
later e (groups a b f) = groups (a - 1) (b - 1) (λ k c. ⊎_elim (λ i. inl (down i)) (λ i. inr (down i)) (f (suc k) c))

module _ (e : List ℕ) (h : Bits e) (l : length e ≤ 49) (z : remainder (1 ∷ e) ≡ 0) where
  up_to_three : (n : ℕ) → weight e ≡ n → n ≤ 2 → ⊥
  up_to_three zero w m = not_odd (1 ∷ e) (omega arith, h) z (omega arith)
  up_to_three (suc zero) w m =
      let i = only e w in
      not_groups e i.0 h l (λ k c. inr (record { from = omega (arith, i.1 k c); to = omega (arith, i.1 k c) })) z
  up_to_three (suc (suc n)) w m = not_odd (1 ∷ e) (omega arith, h) z (omega arith)

  begins : Damage (1 ∷ e) → ⊥
  begins (few w) = up_to_three (weight e) refl (omega arith)
  begins (odd w) = not_odd (1 ∷ e) (omega arith, h) z (omega arith)
  begins (burst a f) = not_burst e h (λ k c. omega (arith, f 0 refl, f (suc k) c)) z
  begins (groups a b f) =
      ⊎_elim
      (λ i. not_groups e (b - 1) h l (λ k c. ⊎_elim (λ j. inl (omega arith)) (λ j. inr (down j)) (f (suc k) c)) z)
      (λ i. not_groups e (a - 1) h l (λ k c. ⊎_elim (λ j. inr (down j)) (λ j. inl (omega arith)) (f (suc k) c)) z)
      (f 0 refl)

not_damage : (e : List ℕ) → Bits e → length e ≤ 50 → 1 ≤ weight e → remainder e ≡ 0 → Damage e → ⊥
unfolding remainder_from
not_damage [] h l s z d = omega arith
not_damage (zero ∷ e) h l s z d = not_damage e h.1 (omega arith) (omega arith) z (later e d)
not_damage (suc zero ∷ e) h l s z d = begins e h.1 (omega arith) z d
not_damage (suc (suc b) ∷ e) h l s z d = omega arith

-- ---- the changed block

prefix_xors : (s e : List ℕ) → Good s → length e ≡ 50 → prefix_in (xors s e) ≡ bit_xor 1 (prefix_in e)
unfolding xors
prefix_xors [] e g l = absurd (omega (arith, g.size))
prefix_xors (p ∷ s) [] g l = absurd (omega arith)
prefix_xors (p ∷ s) (f ∷ e) g l = ap (λ (x : ℕ). bit_xor x f) g.prefix

-- a good block leaves nothing behind its prefix; so where the prefix is not changed, the changed block leaves there what the changes do
left_by : (s e : List ℕ) → Good s → length e ≡ 50 → Bits e → prefix_in e ≡ 0 → remainder (drop 1 (xors s e)) ≡ remainder e
unfolding xors remainder_from
left_by [] e g l h z = absurd (omega (arith, g.size))
left_by (p ∷ s) [] g l h z = absurd (omega arith)
left_by (p ∷ s) (f ∷ e) g l h z =
    rem_xor s e 0 0 (omega arith) (omega arith) g.bits.1 h.1 (omega (arith, g.size))
    ∙ ap (λ (x : ℕ). bit_xor x (remainder e)) (good_rem (p ∷ s) g)
    ∙ sym (ap (λ (x : ℕ). remainder_from (step_bit 0 x) e) z)

module _ (s e : List ℕ) (g : Good s) (p : Pattern e) where
  prefix_is : prefix_in (xors s e) ≡ bit_xor 1 (prefix_in e)
  prefix_is = prefix_xors s e g p.size

  pub changed_size : length (xors s e) ≡ 50
  changed_size = length_xors s e (omega (arith, g.size, p.size)) ∙ g.size

  pub changed_bits : Bits (xors s e)
  changed_bits = bits_xors s e g.bits p.bits

  -- both begin with a 1, so the pattern begins with a 0
  between : Good (xors s e) → remainder e ≡ 0
  between w =
      let z : prefix_in e ≡ 0 = sym (xor_cancel 1 (prefix_in e)) ∙ ap (bit_xor 1) (sym prefix_is ∙ w.prefix) in
      sym (left_by s e g p.size p.bits z) ∙ good_rem (xors s e) w

  refused_with_lem : Damage e → refusal_in (read_of (xors s e)) ≡ refused_with (eqb (prefix_in e) 1)
  refused_with_lem d =
      refused (xors s e) changed_size changed_bits (λ w. not_damage e p.bits (omega (arith, p.size)) (omega (arith, p.some)) (between w) d)
      ∙ ap refused_with (ap (λ (x : ℕ). eqb x 0) prefix_is ∙ on_bit (λ x. eqb (bit_xor 1 x) 0 ≡ eqb x 1) refl refl (prefix_in e) (bits_at e 0 p.bits))

  tells : remainder_read (read_of (xors s e)) ≡ cond (eqb (prefix_in e) 1) 0 (remainder e)
  tells =
      on_bit (λ f. prefix_in e ≡ f → remainder_read (read_of (xors s e)) ≡ cond (eqb f 1) 0 (remainder e))
      (λ z. told_is (xors s e) changed_size changed_bits (prefix_is ∙ ap (bit_xor 1) z) ∙ left_by s e g p.size p.bits z)
      (λ o. let f : prefix_in (xors s e) ≡ 0 = prefix_is ∙ ap (bit_xor 1) o in ap remainder_read (sym (wrong_prefix (xors s e) changed_size (bits_are (xors s e) changed_bits) (λ q. omega arith))))
      (prefix_in e) (bits_at e 0 p.bits) refl

pub damage_refused : DamageRefused
damage_refused = refused_with_lem

pub damage_told : DamageTold
damage_told = tells
