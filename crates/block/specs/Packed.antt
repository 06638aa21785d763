-- The block as one number: the first bit in place 49, places 50 to 63 zero (02, No. 6). Its fifty bits are `bits_of 50`, and the
-- number of fifty bits is their `value`; every rule is that of the fifty bits.
-- Assumes nothing.
use Rattle.std.specs.Prelude.{Bool, cond, ◌&&◌, List, ℕ, ◌/◌, ◌%◌, ◌^◌, Result, Ok, Err, eqb, ltb, leb, length}
use Rattle.refusal.specs.declared.Refusal.{Refusal}
use Rattle.refusal.specs.declared.Refusal.TheVariants.{NotABit, WrongLength, WrongPrefix, WrongCheckWord, OutOfRange, NumberTooWide}
use Rattle.block.specs.Bits.{are_bits, bits_of, value}
use Rattle.block.specs.Block.{block_of}
use Rattle.block.specs.Read.{carried, must, read_of}
use Rattle.block.specs.Choose.{between}
use Rattle.block.specs.declared.Aerial.{Aerial}
use Rattle.block.specs.declared.Body.{Body}
use Rattle.block.specs.declared.Refused.{Refused}

-- no bit above place 49
abbrev pub fits : ℕ → Bool
fits n = ltb n (2 ^ 50)

-- reading: a bit above place 49 gets 14, then all is as with the fifty bits
unfoldable pub read_packed : ℕ → Result Body Refused
read_packed n = must (fits n) NumberTooWide 0 (read_of (bits_of 50 n))

-- writing: the number of the block, or where the code is above 15 a refusal
abbrev pub write_packed : ℕ → ℕ → Result ℕ Refusal
write_packed code word = cond (ltb code 16) (Ok (value (block_of code word))) (Err OutOfRange)

-- choosing, by what the two numbers read as
abbrev pub choose_packed : ℕ → ℕ → Result Aerial Refused
choose_packed first second = between (read_packed first) (read_packed second)

-- packing: any fifty bits, good or not; tests 2, 1
unfoldable pub pack_of : List ℕ → Result ℕ Refusal
pack_of s = cond (eqb (length s) 50) (cond (are_bits s) (Ok (value s)) (Err NotABit)) (Err WrongLength)

-- unpacking into fifty places: tests 2, 14; and what the places hold then, where refused what they held before
abbrev pub unpack_of : ℕ → ℕ → Result (Unit {0}) Refusal
unpack_of size n = cond (eqb size 50) (cond (fits n) (Ok tt) (Err NumberTooWide)) (Err WrongLength)

abbrev pub unpacked_of : List ℕ → ℕ → List ℕ
unpacked_of held n = cond (eqb (length held) 50 && fits n) (bits_of 50 n) held

-- the number of a block, 0 where refused
abbrev pub number_packed : Result ℕ Refusal → ℕ
number_packed (Ok n) = n
number_packed (Err refusal) = 0

-- what a number of fifty bits says, where the remainder of what stands behind the prefix is known: the prefix has to be 1, and
-- nothing may be left (BBC RD 1984/19, 5.3); what is left is told
unfoldable pub read_by : ℕ → ℕ → Result Body Refused
read_by n left = must (leb (2 ^ 49) n) WrongPrefix 0 (must (eqb left 0) WrongCheckWord left (carried (n / 2 ^ 45 % 16) (n / 2 ^ 13 % 2 ^ 32)))
