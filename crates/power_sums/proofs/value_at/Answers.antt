-- `value_at` meets its contract. The loop's invariant: the value moved up by the symbols that are left, and their value, make the whole.
-- Assumes nothing.
use mathlib.Core.List.{List, ◌∷◌}
use mathlib.Core.Path.{◌≡◌, sym, ap, ap₂, ◌∙◌, subst}
use Prim.Native.Nat.{ℕ, zero, suc, ◌-◌, ◌*◌, ◌/◌, ◌%◌, ◌^◌, ◌<◌, ◌≤◌}
use native.Mathlib.Omega.{arith}
use lib.Bits.{bit_xor, xor_lt, xor_zero_r}
use lib.ListN.{length}
use Rattle.block.proofs.Xor.{xor_assoc}
use Rattle.field16.specs.Words.{at}
use Rattle.big_endian.specs.Digits.{digits}
use Rattle.field16.specs.Field.{times, power}
use Rattle.big_endian.proofs.Digits.{digits_next, length_digits}
use Rattle.field16.proofs.Elements.{times_lt, times_comm, times_assoc, times_one, zero_times, xor_times}
use Rattle.power_sums.proofs.value_at.Goals as goal

-- a value moved up by one symbol, and the symbol added
moved : (x v d : ℕ) (ds : List ℕ)
    → bit_xor (times (bit_xor (times x v) d) (power x (length ds))) (at x ds) ≡ bit_xor (times v (power x (suc (length ds)))) (at x (d ∷ ds))
unfolding at power
moved x v d ds =
    let p : ℕ = power x (length ds) in
    let e : times (times x v) p ≡ times v (times x p) = ap (λ (n : ℕ). times n p) (times_comm x v) ∙ sym (times_assoc v x p) in
    ap (λ (n : ℕ). bit_xor n (at x ds)) (xor_times (times x v) d p ∙ ap (λ (n : ℕ). bit_xor n (times d p)) e)
    ∙ xor_assoc (times v (times x p)) (times d p) (at x ds)

turn : (x v n left : ℕ) → 0 < left
    → bit_xor (times (bit_xor (times x v) (n / 2 ^ ((left - 1) * 4) % 16)) (power x (left - 1))) (at x (digits 4 (left - 1) n))
    ≡ bit_xor (times v (power x left)) (at x (digits 4 left n))
turn x v n left h =
    let d : ℕ = n / 2 ^ ((left - 1) * 4) % 16 in
    let ds : List ℕ = digits 4 (left - 1) n in
    let e : suc (left - 1) ≡ left = omega arith in
    subst (λ (l : ℕ). bit_xor (times (bit_xor (times x v) d) (power x l)) (at x ds) ≡ bit_xor (times v (power x (suc l))) (at x (d ∷ ds)))
    (length_digits 4 (left - 1) n) (moved x v d ds)
    ∙ ap₂ (λ (l : ℕ) (cs : List ℕ). bit_xor (times v (power x l)) (at x cs)) e (sym (digits_next 4 left n h))

ends : (x v n left : ℕ) → v < 16 → left ≤ 0 → bit_xor (times v (power x left)) (at x (digits 4 left n)) ≡ v
unfolding digits at power
ends x v n zero h l = xor_zero_r (times v 1) ∙ times_comm v 1 ∙ times_one v h
ends x v n (suc left) h l = absurd (omega arith)

pub loop-left-init : goal.loop-left-init
loop-left-init c =
    let x = c.args.x in
    let word = digits 4 6 c.args.symbols in
    (omega arith, omega arith, ap (λ (n : ℕ). bit_xor n (at x word)) (zero_times (power x 6)))

pub loop-left-preserved : goal.loop-left-preserved
loop-left-preserved c =
    let x = c.args.x in
    let symbols = c.args.symbols in
    let left = c.loop-left.left in
    let value = c.loop-left.value in (
      omega arith,
      rw c.times.ensures (xor_lt 4 (times x value) (symbols / 2 ^ ((left - 1) * 4) % 16) (times_lt x value) (omega arith)),
      rw c.times.ensures (turn x value symbols left (omega arith) ∙ c.loop-left.invariant.2),
    )

pub returns : goal.returns
returns c =
    sym (ends c.args.x c.loop-left.value c.args.symbols c.loop-left.left c.loop-left.invariant.1 (omega arith))
    ∙ c.loop-left.invariant.2
