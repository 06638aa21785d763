-- Twelve bytes get 20 where their fixed bits are wrong in any way, and 21 where only their symbols are too far from every codeword.
-- Assumes nothing.
use Rattle.std.specs.Prelude.{Result}
use mathlib.Core.List.{List}
use mathlib.Core.Path.{◌≡◌, refl}
use Prim.Native.Nat.{ℕ, ◌<◌}
use native.Mathlib.Omega.{arith}
use lib.ListN.{length}
use Rattle.symbols.specs.Code.{Codeword, Near, differing}
use Rattle.polish.specs.Frame.{Fixed, body_in, checks_in, crc_in}
use Rattle.polish.specs.Read.{Behind, none, wrong, right, Reads, size, fixed, behind, refusal_in}
use Rattle.polish.specs.Taken.{fifteen_in}
use Rattle.refusal.specs.declared.Refusal.{Refusal}
use Rattle.polish.specs.declared.Time.{Time}

pub wrong_fixed_bits : (frame : List ℕ) {r : Result Time Refusal} → length frame ≡ 12 → (Fixed frame → ⊥) → Reads frame r → refusal_in r ≡ 20
wrong_fixed_bits frame l n (size s) = absurd (s l)
wrong_fixed_bits frame l n (fixed k m) = refl
wrong_fixed_bits frame l n (behind k f b) = absurd (n f)

-- right fixed bits leave the answer to what stands behind them
pub behind_fixed : (frame : List ℕ) {r : Result Time Refusal} → length frame ≡ 12 → Fixed frame → Reads frame r → Behind (body_in frame) (checks_in frame) (crc_in frame) r
behind_fixed frame l f (size s) = absurd (s l)
behind_fixed frame l f (fixed k n) = absurd (n f)
behind_fixed frame l f (behind k g b) = b

pub farther_refused : (frame : List ℕ) {r : Result Time Refusal} → length frame ≡ 12 → Fixed frame
    → ((codeword : List ℕ) → Codeword codeword → 3 < differing (fifteen_in frame) codeword) → Reads frame r → refusal_in r ≡ 21
farther_refused frame l f far reads = by (behind_fixed frame l f reads)
  where
    never : (codeword : List ℕ) → Near (fifteen_in frame) codeword → ⊥
    never codeword near = omega (arith, far codeword near.code, near.within)

    by : {r : Result Time Refusal} → Behind (body_in frame) (checks_in frame) (crc_in frame) r → refusal_in r ≡ 21
    by (none g) = refl
    by (wrong codeword near e) = absurd (never codeword near)
    by (right codeword near e) = absurd (never codeword near)
