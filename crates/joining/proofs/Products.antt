-- The product of remainders: its laws are those of multiples, since each remainder is a multiple of 1.
-- Assumes nothing.
use mathlib.Core.Path.{◌≡◌, sym, ap, ap₂, ◌∙◌}
use Prim.Native.Nat.{ℕ, ◌<◌}
use native.Mathlib.Omega.{arith}
use lib.Bits.{bit_xor, xor_lt, xor_self}
use Rattle.block.specs.Bits.{bits_of}
use Rattle.block.proofs.Strings.{bits_bits_of, length_bits_of, rem_number}
use Rattle.joining.specs.Joining.{times}
use Rattle.joining.specs.Laws.{Product}
use Rattle.joining.proofs.Multiples.{multiple, multiple_lt, multiple_one, multiple_sum, multiple_swap, product_lt, times_is}

-- a remainder is what its bits make of 1
pub of_one : (a : ℕ) → a < 8192 → multiple (bits_of 13 a) 1 ≡ a
of_one a h = multiple_one (bits_of 13 a) (bits_bits_of 13 a) ∙ rem_number 13 a h h

pub times_lt : (a b : ℕ) → b < 8192 → times a b < 8192
times_lt a b h = rw (times_is a b h) (multiple_lt (bits_of 13 a) b (bits_bits_of 13 a) h)

pub times_comm : (a b : ℕ) → a < 8192 → b < 8192 → times a b ≡ times b a
times_comm a b ha hb =
    times_is a b hb ∙ ap (multiple (bits_of 13 a)) (sym (of_one b hb))
    ∙ multiple_swap (bits_of 13 a) (bits_of 13 b) 1 (bits_bits_of 13 a) (bits_bits_of 13 b) (omega arith)
    ∙ ap (multiple (bits_of 13 b)) (of_one a ha) ∙ sym (times_is b a ha)

-- what multiplies two in turn may do so in either order
pub times_swap : (a b c : ℕ) → c < 8192 → times a (times b c) ≡ times b (times a c)
times_swap a b c h =
    times_is a (times b c) (times_lt b c h) ∙ ap (multiple (bits_of 13 a)) (times_is b c h)
    ∙ multiple_swap (bits_of 13 a) (bits_of 13 b) c (bits_bits_of 13 a) (bits_bits_of 13 b) h
    ∙ ap (multiple (bits_of 13 b)) (sym (times_is a c h)) ∙ sym (times_is b (times a c) (times_lt a c h))

pub times_sum : (a b c : ℕ) → b < 8192 → c < 8192 → times a (bit_xor b c) ≡ bit_xor (times a b) (times a c)
times_sum a b c hb hc =
    times_is a (bit_xor b c) (xor_lt 13 b c hb hc) ∙ multiple_sum (bits_of 13 a) b c (bits_bits_of 13 a) hb hc
    ∙ sym (ap₂ bit_xor (times_is a b hb) (times_is a c hc))

pub product_laws : Product
product_laws a b c ha hb hc =
    record {
      fits = rw (length_bits_of 13 a) at (product_lt (bits_of 13 a) b (bits_bits_of 13 a) hb);
      commutative = times_comm a b ha hb;
      associative = ap (times a) (times_comm b c hb hc) ∙ times_swap a c b hb ∙ times_comm c (times a b) hc (times_lt a b hb);
      distributes = times_sum a b c hb hc;
    }

pub times_one : (a : ℕ) → a < 8192 → times a 1 ≡ a
times_one a h = times_is a 1 (omega arith) ∙ of_one a h

pub times_zero : (a : ℕ) → times a 0 ≡ 0
times_zero a = times_sum a 0 0 (omega arith) (omega arith) ∙ xor_self (times a 0)

pub zero_times : (b : ℕ) → b < 8192 → times 0 b ≡ 0
zero_times b h = times_comm 0 b (omega arith) h ∙ times_zero b
