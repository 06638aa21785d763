-- A window that starts inside a block holds the end of that block and the beginning of the next.
-- Assumes nothing.
use mathlib.Core.List.{List, [], ◌∷◌, ◌++◌}
use mathlib.Core.Path.{◌≡◌, refl, sym, ap, ◌∙◌, subst}
use Prim.Native.Nat.{ℕ, zero, suc, ◌+◌, ◌-◌, ◌*◌, ◌%◌, ◌<◌, ◌≤◌}
use native.Mathlib.Decide.{dec_le}
use native.Mathlib.Omega.{arith}
use lib.ListN.{length, take, drop, replicate, length-append, length-take, length-drop}
use lib.Seq.{take-append-le, take-append-add, drop-append-le, drop-append-add}
use Rattle.block.specs.Bits.{Bits}
use Rattle.block.specs.Block.{Good, block_of}
use Rattle.block.proofs.RoundTrip.{written_good}
use Rattle.block.proofs.Strings.{bits_append, bits_take, bits_drop}
use Rattle.detection.specs.Slips.{Message, sent, window}

pub record Seam (d : ℕ) (w : List ℕ) : Type 0 where
  pub one : List ℕ
  pub two : List ℕ
  pub good_one : Good one
  pub good_two : Good two
  pub is : w ≡ drop d one ++ take d two

pub joint : (x y r : List ℕ) (d : ℕ) → d < 50 → length x ≡ 50 → length y ≡ 50 → window (x ++ (y ++ r)) d ≡ drop d x ++ take d y
joint x y r d h lx ly =
    let a : List ℕ = drop d x in
    let e : length a + d ≡ 50 = omega (arith, length-drop d x) in
    ap (take 50) (drop-append-le d x (y ++ r) (omega arith)) ∙ ap (λ (n : ℕ). take n (a ++ (y ++ r))) (sym e)
    ∙ take-append-add a (y ++ r) d ∙ ap (λ (l : List ℕ). a ++ l) (take-append-le d y r (omega arith))

written : (m : Message) → Good (block_of m.code m.word)
written m = written_good m.code m.word

-- a window behind the first block is one of the run without it
pub skip : (m : Message) (ms : List Message) (k start : ℕ) → start ≡ 50 + k → window (sent (m ∷ ms)) start ≡ window (sent ms) k
skip m ms k start e =
    let x : List ℕ = block_of m.code m.word in
    let z : start ≡ length x + k = omega (arith, (written m).size) in
    ap (take 50) (ap (λ (n : ℕ). drop n (sent (m ∷ ms))) z ∙ drop-append-add x (sent ms) k)

pub length_sent : (messages : List Message) → length (sent messages) ≡ 50 * length messages
length_sent [] = omega arith
length_sent (m ∷ ms) = length-append (block_of m.code m.word) (sent ms) ∙ omega (arith, (written m).size, length_sent ms)

-- where one message is repeated, every window that starts d bits after a start holds the end of its block and then the beginning
pub repeats : (m : Message) (times d start : ℕ) → start % 50 ≡ d → 1 ≤ d → start + 50 ≤ length (sent (replicate times m))
    → window (sent (replicate times m)) start ≡ drop d (block_of m.code m.word) ++ take d (block_of m.code m.word)
repeats m zero d start e p h = absurd (omega arith)
repeats m (suc zero) d start e p h = absurd (omega (arith, length-append (block_of m.code m.word) [], (written m).size))
repeats m (suc (suc times)) d start e p h =
    let x : List ℕ = block_of m.code m.word in
    elim (dec_le 50 start) [
      | yes l ↦ skip m (replicate (suc times) m) (start - 50) start (omega arith)
          ∙ repeats m (suc times) d (start - 50) (omega arith) p (omega (arith, length-append x (sent (replicate (suc times) m)), (written m).size))
      | no l ↦ let z : start ≡ d = omega arith in
          ap (window (sent (replicate (suc (suc times)) m))) z ∙ joint x x (sent (replicate times m)) d (omega arith) (written m).size (written m).size
    ]

pub seam : (messages : List Message) (n d start : ℕ) → start ≡ 50 * n + d → 1 ≤ d → d < 50
    → start + 50 ≤ length (sent messages) → Seam d (window (sent messages) start)
seam [] n d start e p q h = absurd (omega arith)
seam (m ∷ []) zero d start e p q h = absurd (omega (arith, length-append (block_of m.code m.word) [], (written m).size))
seam (m ∷ m' ∷ ms) zero d start e p q h =
    let x : List ℕ = block_of m.code m.word in
    let y : List ℕ = block_of m'.code m'.word in
    let z : start ≡ d = omega arith in
    record {
      one = x;
      two = y;
      good_one = written m;
      good_two = written m';
      is = ap (window (sent (m ∷ m' ∷ ms))) z ∙ joint x y (sent ms) d q (written m).size (written m').size;
    }
seam (m ∷ ms) (suc n) d start e p q h =
    subst (Seam d) (sym (skip m ms (50 * n + d) start (omega arith)))
    (seam ms n d (50 * n + d) refl p q (omega (arith, length-append (block_of m.code m.word) (sent ms), (written m).size)))

pub seam_size : {d : ℕ} {w : List ℕ} → d < 50 → Seam d w → length w ≡ 50
seam_size {d} h s =
    ap length s.is
    ∙ omega (arith, length-append (drop d s.one) (take d s.two), length-drop d s.one, length-take d s.two, s.good_one.size, s.good_two.size)

pub seam_bits : {d : ℕ} {w : List ℕ} → Seam d w → Bits w
seam_bits {d} s =
    subst Bits (sym s.is) (bits_append (drop d s.one) (take d s.two) (bits_drop d s.one s.good_one.bits) (bits_take d s.two s.good_two.bits))
