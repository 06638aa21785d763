-- What a burst changed is changed back: the burst itself makes the block good, and nothing else does.
-- Assumes nothing.
use mathlib.Core.List.{List}
use mathlib.Core.Path.{◌≡◌, sym, ap, ◌∙◌, subst}
use Prim.Native.Nat.{ℕ}
use native.Mathlib.Omega.{arith}
use lib.ListN.{length}
use Rattle.block.specs.Bits.{Bits, xors}
use Rattle.block.specs.Block.{Good}
use Rattle.block.proofs.Inverted.{good_inverted}
use Rattle.block.proofs.Strings.{bits_xors, length_xors, xors_cancel, xors_comm}
use Rattle.detection.specs.Damage.{burst}
use Rattle.detection.proofs.Damage.{changed_bits, changed_size, damage_refused}
use Rattle.detection.proofs.Places.{only}
use Rattle.detection.proofs.Refusal as refusal
use Rattle.detection.specs.Slips.{IsRefused}
use Rattle.mending.specs.Changes.{Burst, Makes, six_from}
use Rattle.mending.specs.Laws.{BurstsDiffer, MendedBack, BurstsMended, SingleMended, NeighboursMended, TwoBurstsRefused}
use Rattle.mending.specs.Mending.{Mends, bad, one, tells}
use Rattle.mending.proofs.CutOut.{first_of}
use Rattle.mending.proofs.OnlyOne.{bursts_differ, burst_leaves, makes_left, only_one}

pub they_differ : BurstsDiffer
they_differ = record { same = bursts_differ; some = burst_leaves }

module _ (s e : List ℕ) (g : Good s) (b : Burst 6 e) where
  abbrev received : List ℕ
  received = xors s e

  size : length received ≡ 50
  size = changed_size s e g b.pattern

  bits : Bits received
  bits = changed_bits s e g b.pattern

  changed_back : xors received e ≡ s
  changed_back = xors_comm received e ∙ ap (xors e) (xors_comm s e) ∙ xors_cancel e s (b.pattern.size ∙ sym g.size)

  makes : Makes received e
  makes = record { burst = b; good = subst Good (sym changed_back) g }

  not_good : Good received → ⊥
  not_good w = burst_leaves e b (makes_left received size bits e makes ∙ (good_inverted received w).1)

  mended_back : MendedBack s e
  mended_back =
      let f = first_of e b.pattern.bits b.pattern.some in
      record {
        refused =
            damage_refused s e g b.pattern
            (burst b.within.first (λ k c. let i = b.within.among k c in record { from = i.from; to = omega (arith, i.to) }));
        place = f.0;
        first = f.1;
        mends =
            subst (Mends received (tells f.0 (six_from f.0 e))) changed_back
            (bad size bits not_good (one e makes (λ d m. only_one received size bits d e m makes) f.0 f.1));
      }

  -- a second burst would make the block good as the first does
  refused_twice : (d : List ℕ) → Burst 6 d → (e ≡ d → ⊥) → IsRefused (xors received d)
  refused_twice d a f =
      refusal.refused (xors received d) (length_xors received d (size ∙ sym a.pattern.size) ∙ size) (bits_xors received d bits a.pattern.bits)
      (λ w. f (only_one received size bits e d makes (record { burst = a; good = w })))

pub bursts_mended : BurstsMended
bursts_mended = mended_back

pub single_mended : SingleMended
single_mended s e g p w =
    let i = only e w in
    bursts_mended s e g (record { pattern = p; within = record { first = i.0; among = λ k c. record { from = omega (arith, i.1 k c); to = omega (arith, i.1 k c) } } })

pub neighbours_mended : NeighboursMended
neighbours_mended s e a g p f =
    bursts_mended s e g (record { pattern = p; within = record { first = a; among = λ k c. let i = f k c in record { from = i.from; to = omega (arith, i.to) } } })

pub two_bursts_refused : TwoBurstsRefused
two_bursts_refused s d e g a b = refused_twice s d g a e b
