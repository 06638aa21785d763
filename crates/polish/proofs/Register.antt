-- A byte moves through the register in one step: the checker computes all 256 sums of a register and a byte.
-- Assumes nothing.
use mathlib.Core.Bool.{◌&&◌}
use mathlib.Core.List.{List}
use mathlib.Core.Path.{◌≡◌, sym, ap, ◌∙◌}
use Prim.Native.Nat.{ℕ, ◌*◌, ◌/◌, ◌%◌, ◌<◌, ◌≤◌, ◌+◌}
use native.Mathlib.Omega.{arith}
use lib.Bits.{bit_xor, xor_lt}
use lib.Dec.{T, eqb, ltb, eqb→eq, ltb→lt}
use lib.ListN.{length, get_or, drop}
use Rattle.std.proofs.lemmas.List.{drop_all}
use mir.Facts.{and_yes}
use Rattle.block.proofs.Below.{at_below}
use Rattle.block.proofs.Strings.{next}
use Rattle.polish.specs.Crc.{crc_shifts, crc_from}

pub sum_lt : (register byte : ℕ) → (register < 256) × (byte < 256) → bit_xor register byte < 256
sum_lt register byte h = xor_lt 8 register byte h.0 h.1

-- a number times x^2 + x + 1
abbrev pub tripled : ℕ → ℕ
tripled n = bit_xor n (bit_xor (n * 2) (n * 4))

pub tripled_lt : (n : ℕ) → n < 256 → tripled n < 1024
tripled_lt n h = xor_lt 10 n (bit_xor (n * 2) (n * 4)) (omega arith) (xor_lt 10 (n * 2) (n * 4) (omega arith) (omega arith))

-- what stands above x^7 then goes the same way
abbrev pub moved : ℕ → ℕ
moved n = bit_xor (tripled n % 256) (tripled (tripled n / 256))

right : (n : ℕ) → n < 256 → T (ltb (moved n) 256 && eqb (moved n) (crc_shifts 8 n))
unfolding crc_shifts
right = at_below 256 (λ n. ltb (moved n) 256 && eqb (moved n) (crc_shifts 8 n)) tt

pub moved_right : (n : ℕ) → n < 256 → (moved n < 256) × (moved n ≡ crc_shifts 8 n)
moved_right n h =
    let small = ltb (moved n) 256 in
    let same = eqb (moved n) (crc_shifts 8 n) in
    let passed = and_yes small same (right n h) in
    (ltb→lt (moved n) 256 passed.0, eqb→eq (moved n) (crc_shifts 8 n) passed.1)

-- one byte more through the register
pub through : (r n i : ℕ) (bytes : List ℕ) → i < length bytes → n ≡ crc_shifts 8 (bit_xor r (get_or bytes i 0)) → crc_from n (drop (i + 1) bytes) ≡ crc_from r (drop i bytes)
unfolding crc_from
through r n i bytes h e = ap (λ (x : ℕ). crc_from x (drop (i + 1) bytes)) e ∙ sym (ap (crc_from r) (next bytes i h))

pub ends : (r i : ℕ) (bytes : List ℕ) → length bytes ≤ i → crc_from r (drop i bytes) ≡ r
unfolding crc_from
ends r i bytes h = ap (crc_from r) (drop_all i bytes h)
