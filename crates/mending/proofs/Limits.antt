-- The limits: each witness is a burst of seven in the block of code 0 and word 0 that leaves what a burst of six leaves.
-- Assumes nothing.
use mathlib.Core.Bool.{true}
use mathlib.Core.List.{List, ◌++◌}
use mathlib.Core.Path.{◌≡◌, refl, sym, ap, ◌∙◌, subst}
use Prim.Native.Nat.{ℕ, ◌*◌, ◌^◌, ◌≤◌}
use native.Mathlib.Omega.{arith}
use lib.ListN.{length, get_or}
use Rattle.block.specs.Bits.{Bits, are_bits, bits_of, xors, zeros}
use Rattle.block.specs.Block.{Good, block_of, body_of, inverted, prefix_in}
use Rattle.block.specs.Division.{remainder_from, remainder}
use Rattle.block.proofs.Inverted.{good_inverted}
use Rattle.block.proofs.RoundTrip.{written_good}
use Rattle.block.proofs.Strings.{are_bits_lem, length_bits_of}
use Rattle.detection.specs.Damage.{weight}
use Rattle.detection.proofs.Damage.{changed_bits, changed_size}
use Rattle.mending.specs.Changes.{Burst, Makes}
use Rattle.mending.specs.Limits.{Seven, received, SevenMendedWrongly, SevenRefused}
use Rattle.mending.specs.Mending.{Mends, bad, one, none, tells}
use Rattle.mending.specs.Search.{FromFirst}
use Rattle.mending.proofs.FirstPlace.{told_burst, told_first, told_pattern, within}
use Rattle.mending.proofs.OnlyOne.{bursts_differ, burst_leaves, makes_left, only_one}

-- ---- seven places from j on

module _ (j w n : ℕ) where
  changes_at : List ℕ
  changes_at = zeros j ++ (bits_of 7 w ++ zeros n)

  seven_at : length changes_at ≡ 50 → are_bits changes_at ≡ true → 1 ≤ weight changes_at → Seven
  unfolding changes_at
  seven_at l h p =
      record {
        sent = block_of 0 0;
        good = written_good 0 0;
        changes = changes_at;
        burst =
            record {
              pattern = record { size = l; bits = are_bits_lem changes_at h; some = p };
              within = record { first = j; among = λ k c. rw (length_bits_of 7 w) at (within j n (bits_of 7 w) k c) };
            };
      }

module _ (seven : Seven) where
  size : length (received seven) ≡ 50
  size = changed_size seven.sent seven.changes seven.good seven.burst.pattern

  bits : Bits (received seven)
  bits = changed_bits seven.sent seven.changes seven.good seven.burst.pattern

-- ---- mended to another block: 1000101 from place 1 on leaves what 111110 from place 11 on leaves

wrongly : Seven
unfolding changes_at bits_of
wrongly = seven_at 1 0b1000101 42 refl refl (omega arith)

taken_for : ℕ
taken_for = 0b111110 * 2 ^ 33

taken_first : FromFirst taken_for 11 0b111110
unfolding taken_for
taken_first = record { is = refl; inside = omega arith; high = omega arith; low = omega arith }

wrongly_left : remainder (inverted (received wrongly)) ≡ 0xee4
unfolding wrongly seven_at changes_at xors block_of body_of bits_of remainder_from
wrongly_left = refl

-- the block of code 8 and word 0xa3e00000 comes out
wrongly_after : xors (received wrongly) (bits_of 50 taken_for) ≡ block_of 8 0xa3e00000
unfolding wrongly seven_at changes_at taken_for xors block_of body_of bits_of remainder_from
wrongly_after = refl

wrongly_makes : Makes (received wrongly) (bits_of 50 taken_for)
wrongly_makes = record { burst = told_burst taken_for 11 0b111110 taken_first; good = subst Good (sym wrongly_after) (written_good 8 0xa3e00000) }

not_sent : xors (received wrongly) (bits_of 50 taken_for) ≡ wrongly.sent → ⊥
unfolding wrongly seven_at block_of body_of bits_of
not_sent e = let z : ◌≡◌ {A = ℕ} 1 0 = ap (λ (l : List ℕ). get_or l 1 0) (sym wrongly_after ∙ e) in omega arith

pub seven_mended_wrongly : SevenMendedWrongly
seven_mended_wrongly =
    let s : List ℕ = received wrongly in
    let e : List ℕ = bits_of 50 taken_for in
    record {
      seven = wrongly;
      after = xors s e;
      place = 11;
      pattern = 0b111110;
      mends =
          subst (λ (p : ℕ). Mends s (tells 11 p) (xors s e)) (told_pattern taken_for 11 0b111110 taken_first)
          (bad (size wrongly) (bits wrongly) (λ g. omega (arith, wrongly_left, (good_inverted s g).1))
          (one e wrongly_makes (λ d m. only_one s (size wrongly) (bits wrongly) d e m wrongly_makes) 11 (told_first taken_for 11 0b111110 taken_first)));
      other = not_sent;
    }

-- ---- refused: 1001111 from place 30 on leaves what the prefix alone leaves, but the prefix is right

stopped : Seven
unfolding changes_at bits_of
stopped = seven_at 30 0b1001111 13 refl refl (omega arith)

prefix_first : FromFirst (2 ^ 49) 0 0b100000
prefix_first = record { is = refl; inside = omega arith; high = omega arith; low = omega arith }

stopped_left : remainder (inverted (received stopped)) ≡ remainder (bits_of 50 (2 ^ 49))
unfolding stopped seven_at changes_at xors block_of body_of bits_of remainder_from
stopped_left = refl

stopped_prefix : prefix_in (xors (received stopped) (bits_of 50 (2 ^ 49))) ≡ 0
unfolding stopped seven_at changes_at xors block_of body_of bits_of
stopped_prefix = refl

pub seven_refused : SevenRefused
seven_refused =
    let s : List ℕ = received stopped in
    let prefix : Burst 6 (bits_of 50 (2 ^ 49)) = told_burst (2 ^ 49) 0 0b100000 prefix_first in
    record {
      seven = stopped;
      refused =
          bad (size stopped) (bits stopped) (λ g. burst_leaves (bits_of 50 (2 ^ 49)) prefix (sym stopped_left ∙ (good_inverted s g).1))
          (none (λ e m.
          let same : e ≡ bits_of 50 (2 ^ 49) = bursts_differ e (bits_of 50 (2 ^ 49)) m.burst prefix (makes_left s (size stopped) (bits stopped) e m ∙ stopped_left) in
          omega (arith, stopped_prefix, ap (λ (c : List ℕ). prefix_in (xors s c)) same, m.good.prefix)));
    }
