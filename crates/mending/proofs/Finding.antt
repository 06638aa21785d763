-- What turning back finds decides: a change that makes the block good leaves what the block leaves, so it is the one that was found.
-- Assumes nothing.
use Rattle.refusal.specs.declared.Refusal.{Refusal}
use Rattle.std.specs.Prelude.{Result, Err}
use mathlib.Core.List.{List}
use mathlib.Core.Path.{◌≡◌, refl, sym, ap, ap₂, ◌∙◌, subst}
use Prim.Native.Nat.{ℕ, ◌+◌, ◌*◌, ◌/◌, ◌%◌, ◌^◌, ◌<◌, ◌≤◌}
use native.Mathlib.Decide.{dec_le}
use native.Mathlib.Omega.{arith}
use lib.Bits.{bit_xor, xor_lt, xor_zero_r}
use lib.ListN.{length}
use lib.Pow.{pow_mono, shl_exact, shl_lt}
use Rattle.refusal.specs.declared.Refusal.TheVariants.{NoSuchChange}
use Rattle.block.specs.Bits.{Bits, bits_of, value, xors}
use Rattle.block.specs.Block.{Good, inverted, prefix_in}
use Rattle.block.specs.Division.{remainder_from, remainder}
use Rattle.block.proofs.Inverted.{good_inverted, inverted_good}
use Rattle.block.proofs.Strings.{bits_bits_of, bits_of_first, bits_of_xor, length_bits_of}
use Rattle.block.proofs.Zeros.{up, up_zero}
use Rattle.mending.specs.Changes.{Makes}
use Rattle.mending.specs.Mending.{Mends, one, none, good, bad, tells}
use Rattle.mending.specs.Search.{TurnedBack, FromFirst}
use Rattle.mending.specs.declared.Change.{Change}
use Rattle.mending.proofs.Backwards.{unfit}
use Rattle.mending.proofs.Bursts.{Six, six_left, same_places}
use Rattle.mending.proofs.CutOut.{burst_six}
use Rattle.mending.proofs.FirstPlace.{told_first, told_pattern, told_burst}
use Rattle.mending.proofs.Goodness.{makes_good}
use Rattle.mending.proofs.OnlyOne.{burst_places, burst_left, makes_left, only_one}

module _ (n left rest behind : ℕ) (h : n < 2 ^ 50) (e : left ≡ remainder (inverted (bits_of 50 n))) (t : TurnedBack left rest behind) where
  abbrev s : List ℕ
  s = bits_of 50 n

  abbrev changes : ℕ
  changes = rest * 2 ^ behind

  abbrev mended : ℕ
  mended = bit_xor n (changes % 2 ^ 64)

  -- an answer, and the places that change for it
  abbrev Asks : Result Change Refusal → ℕ → Type 0
  Asks answer places = (places < 2 ^ 50) × Mends s answer (bits_of 50 (bit_xor n places))

  size : length s ≡ 50
  size = length_bits_of 50 n

  bits : Bits s
  bits = bits_bits_of 50 n

  -- a good block leaves nothing, and so nothing is turned back
  good_rest : Good s → rest ≡ 0
  good_rest g = up_zero behind rest t.small (t.forth ∙ e ∙ (good_inverted s g).1)

  makes_up : (c : List ℕ) (m : Makes s c) → up (burst_six c m.burst).behind (burst_six c m.burst).rest ≡ left
  makes_up c m = sym (burst_left c m.burst) ∙ makes_left s size bits c m ∙ sym e

  too_long : 64 ≤ rest → (c : List ℕ) → Makes s c → ⊥
  too_long w c m =
      let q = burst_six c m.burst in
      elim (dec_le behind q.behind) [
        | yes l ↦ let d : q.behind ≡ behind = omega (arith, q.inside, t.last w) in
            unfit behind rest left t.small t.forth w q.rest q.small (rw d at (makes_up c m))
        | no l ↦ t.earlier q.behind (omega arith) q.rest q.small (makes_up c m)
      ]

  pub not_found : 64 ≤ rest → Mends s (Err NoSuchChange) s
  not_found w = bad size bits (λ g. omega (arith, good_rest g)) (none (too_long w))

  module _ (fits : rest < 64) where
    -- the shift loses nothing
    shifted : changes % 2 ^ 64 ≡ changes
    shifted = shl_exact {a = rest} 6 behind 64 fits (omega (arith, t.inside))

    places_lt : changes % 2 ^ 64 < 2 ^ 50
    places_lt = let i : 6 + behind ≤ 50 = omega (arith, t.inside) in rw shifted (omega (arith, shl_lt {a = rest} 6 behind fits, pow_mono i))

    mended_bits : bits_of 50 mended ≡ xors s (bits_of 50 changes)
    mended_bits = ap (λ (m : ℕ). bits_of 50 (bit_xor n m)) shifted ∙ bits_of_xor 50 n changes

    abbrev found : Six changes
    found = record { rest = rest; behind = behind; is = refl; small = fits; inside = t.inside; filled = t.filled }

    -- the only change that there can be
    the_change : (c : List ℕ) → Makes s c → xors s c ≡ bits_of 50 mended
    the_change c m =
        let is : value c ≡ changes = same_places (burst_six c m.burst) found (makes_up c m ∙ sym t.forth) in
        ap (xors s) (sym (burst_places c m.burst) ∙ ap (bits_of 50) is) ∙ sym mended_bits

    prefix_of : (m : ℕ) → prefix_in (bits_of 50 m) ≡ m / 2 ^ 49 % 2
    prefix_of m = ap prefix_in (bits_of_first 49 m)

    untouched : rest ≡ 0 → mended ≡ n
    untouched z =
        let none : changes ≡ 0 = ap (λ (r : ℕ). r * 2 ^ behind) z ∙ omega arith in
        ap (bit_xor n) (shifted ∙ none) ∙ xor_zero_r n

    pub wrong_prefix : mended < 2 ^ 49 → Mends s (Err NoSuchChange) s
    wrong_prefix w =
        bad size bits (λ g. omega (arith, g.prefix, prefix_of n, untouched (good_rest g)))
        (none (λ c m. omega (arith, (subst Good (the_change c m) m.good).prefix, prefix_of mended)))

    module _ (w : 2 ^ 49 ≤ mended) where
      prefix_one : prefix_in (bits_of 50 mended) ≡ 1
      prefix_one = prefix_of mended ∙ omega (arith, xor_lt 50 n (changes % 2 ^ 64) h places_lt)

      pub as_it_was : rest ≡ 0 → Asks (tells 0 0) 0
      unfolding remainder_from
      as_it_was z =
          let none-behind : behind ≡ 0 = elim (dec_le 1 behind) [ yes l ↦ absurd (omega (arith, t.filled l)) | no l ↦ omega arith ] in
          let m : Good s =
          inverted_good s size bits
          (ap (λ (m : ℕ). prefix_in (bits_of 50 m)) (sym (untouched z)) ∙ prefix_one, sym e ∙ sym t.forth ∙ ap₂ up none-behind z) in
          (omega arith, subst (λ (k : ℕ). Mends s (tells 0 0) (bits_of 50 k)) (sym (xor_zero_r n)) (good m))

      pub put_right : 0 < rest → {place pattern : ℕ} → FromFirst changes place pattern → Asks (tells place pattern) (changes % 2 ^ 64)
      put_right p {place} {pattern} f =
          let c : List ℕ = bits_of 50 changes in
          let makes : Makes s c =
          record {
            burst = told_burst changes place pattern f;
            good = makes_good s c size bits (length_bits_of 50 changes) (bits_bits_of 50 changes) (ap prefix_in (sym mended_bits) ∙ prefix_one) (six_left found ∙ t.forth ∙ e);
          } in (
            places_lt,
            subst (Mends s (tells place pattern)) (sym mended_bits)
                (subst (λ (p : ℕ). Mends s (tells place p) (xors s c)) (told_pattern changes place pattern f)
                (bad size bits (λ g. omega (arith, good_rest g))
                (one c makes (λ d m. only_one s size bits d c m makes) place (told_first changes place pattern f)))),
          )
