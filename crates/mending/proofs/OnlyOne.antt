-- Two bursts of six that leave the same are the same; so at most one change makes fifty bits good, since it leaves what they leave.
-- Assumes nothing.
use mathlib.Core.List.{List}
use mathlib.Core.Path.{◌≡◌, sym, ap, ◌∙◌}
use Prim.Native.Nat.{ℕ, ◌*◌, ◌^◌}
use native.Mathlib.Omega.{arith}
use lib.ListN.{length}
use Rattle.block.specs.Bits.{Bits, bits_of, value}
use Rattle.block.specs.Block.{inverted}
use Rattle.block.specs.Division.{remainder}
use Rattle.block.proofs.Strings.{bits_of_val}
use Rattle.block.proofs.Zeros.{up, up_zero}
use Rattle.mending.specs.Changes.{Burst, Makes}
use Rattle.mending.proofs.Bursts.{six_left, same_places}
use Rattle.mending.proofs.CutOut.{burst_six, some_value}
use Rattle.mending.proofs.Goodness.{made_good}

pub burst_places : (e : List ℕ) → Burst 6 e → bits_of 50 (value e) ≡ e
burst_places e b = bits_of_val 50 e b.pattern.bits b.pattern.size

pub burst_left : (e : List ℕ) (b : Burst 6 e) → remainder e ≡ up (burst_six e b).behind (burst_six e b).rest
burst_left e b = ap remainder (sym (burst_places e b)) ∙ six_left (burst_six e b)

-- two bursts that leave the same are the same
pub bursts_differ : (d e : List ℕ) → Burst 6 d → Burst 6 e → remainder d ≡ remainder e → d ≡ e
bursts_differ d e a b l =
    sym (burst_places d a)
    ∙ ap (bits_of 50) (same_places (burst_six d a) (burst_six e b) (sym (burst_left d a) ∙ l ∙ burst_left e b)) ∙ burst_places e b

-- and none leaves nothing
pub burst_leaves : (e : List ℕ) → Burst 6 e → remainder e ≡ 0 → ⊥
burst_leaves e b z =
    let q = burst_six e b in
    let none : q.rest ≡ 0 = up_zero q.behind q.rest (omega (arith, q.small)) (sym (burst_left e b) ∙ z) in
    omega (arith, some_value e b.pattern.some, q.is ∙ ap (λ (r : ℕ). r * 2 ^ q.behind) none)

module _ (s : List ℕ) (l : length s ≡ 50) (h : Bits s) where
  pub makes_left : (e : List ℕ) → Makes s e → remainder e ≡ remainder (inverted s)
  makes_left e m = made_good s e l h m.burst.pattern.size m.burst.pattern.bits m.good

  pub only_one : (d e : List ℕ) → Makes s d → Makes s e → d ≡ e
  only_one d e m n = bursts_differ d e m.burst n.burst (makes_left d m ∙ sym (makes_left e n))
