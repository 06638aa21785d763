-- `times` meets its contract: its product is the definition's, and what stands above x^3 of it is below 8, for which the checker computes the rest.
-- Assumes nothing.
use mathlib.Core.Path.{◌≡◌, ap}
use Prim.Native.Nat.{ℕ, ◌*◌, ◌/◌, ◌%◌, ◌<◌}
use native.Mathlib.Omega.{arith}
use lib.Bits.{bit_xor, xor_lt}
use lib.Dec.{eqb, eqb→eq}
use Rattle.block.proofs.Below.{at_below}
use Rattle.field16.specs.Field.{carryless, times}
use Rattle.field16.proofs.Elements.{bit_times}
use Rattle.field16.proofs.times.Goals as goal

product_lt : (a b : ℕ) → a < 16 → carryless a b < 128
unfolding carryless
product_lt a b h =
    xor_lt 7 (b % 2 * a) _ (omega (arith, bit_times (b % 2) a (omega arith)))
    (xor_lt 7 (b / 2 % 2 * (a * 2)) _ (omega (arith, bit_times (b / 2 % 2) (a * 2) (omega arith)))
    (xor_lt 7 (b / 4 % 2 * (a * 4)) (b / 8 % 2 * (a * 8)) (omega (arith, bit_times (b / 4 % 2) (a * 4) (omega arith)))
    (omega (arith, bit_times (b / 8 % 2) (a * 8) (omega arith)))))

back : (q : ℕ) → q < 8 → bit_xor q (q * 2) ≡ carryless 3 q
unfolding carryless
back q h = eqb→eq (bit_xor q (q * 2)) (carryless 3 q) (at_below 8 (λ q. eqb (bit_xor q (q * 2)) (carryless 3 q)) tt q h)

pub overflow_mul-product : goal.overflow_mul-product
overflow_mul-product c = omega (arith, bit_times (c.args.b % 2) (c.args.a % 16) (omega arith))

pub overflow_mul-product-3 : goal.overflow_mul-product-3
overflow_mul-product-3 c = omega (arith, bit_times (c.args.b / 2 % 2) (c.args.a % 16 * 2) (omega arith))

pub overflow_mul-product-5 : goal.overflow_mul-product-5
overflow_mul-product-5 c = omega (arith, bit_times (c.args.b / 4 % 2) (c.args.a % 16 * 4) (omega arith))

pub overflow_mul-product-7 : goal.overflow_mul-product-7
overflow_mul-product-7 c = omega (arith, bit_times (c.args.b / 8 % 2) (c.args.a % 16 * 8) (omega arith))

pub overflow_mul-result : goal.overflow_mul-result
unfolding carryless
overflow_mul-result c = omega (arith, product_lt (c.args.a % 16) c.args.b (omega arith))

pub returns : goal.returns
unfolding times carryless
returns c =
    let p = carryless (c.args.a % 16) c.args.b in
    ap (bit_xor (p % 16)) (back (p / 16) (omega (arith, product_lt (c.args.a % 16) c.args.b (omega arith))))
