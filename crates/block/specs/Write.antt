-- Writing a block: tests 2, 6 (01, "Numbers given when something is refused"). Nothing of what the slice held is looked at but its length.
-- Assumes nothing.
use Rattle.std.specs.Prelude.{cond, ◌&&◌, List, ℕ, Result, Ok, Err, eqb, ltb, length}
use Rattle.refusal.specs.Numbers.{number_of}
use Rattle.refusal.specs.declared.Refusal.{Refusal}
use Rattle.refusal.specs.declared.Refusal.TheVariants.{WrongLength, OutOfRange}
use Rattle.block.specs.Block.{block_of}

-- the answer: fifty places, and a code of 0 to 15
abbrev pub write_of : ℕ → ℕ → Result (Unit {0}) Refusal
write_of size code = cond (eqb size 50) (cond (ltb code 16) (Ok tt) (Err OutOfRange)) (Err WrongLength)

-- what the slice holds then: the block, or where refused what it held before
abbrev pub written_of : List ℕ → ℕ → ℕ → List ℕ
written_of held code word = cond (eqb (length held) 50 && ltb code 16) (block_of code word) held

-- an answer as the paper's number, 0 where there is no refusal
abbrev pub refusal_of : {X : Type 0} → Result X Refusal → ℕ
refusal_of (Ok x) = 0
refusal_of (Err refusal) = number_of refusal
