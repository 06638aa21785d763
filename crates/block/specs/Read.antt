-- Reading a block: tests 2, 1, 3, 4 (01, "Numbers given when something is refused"), and the remainder that a 4 tells (02, No. 7).
-- Assumes nothing.
use Rattle.std.specs.Prelude.{Bool, true, false, not, List, ◌≡◌, ℕ, ◌<◌, Result, Ok, Err, eqb, length}
use Rattle.refusal.specs.Numbers.{number_of}
use Rattle.refusal.specs.declared.Refusal.{Refusal}
use Rattle.refusal.specs.declared.Refusal.TheVariants.{NotABit, WrongLength, WrongPrefix, WrongCheckWord}
use Rattle.block.specs.Bits.{are_bits, value}
use Rattle.block.specs.Division.{remainder}
use Rattle.block.specs.Block.{prefix_in, code_in, word_in, check_in, body_in, check_of, inverted}
use Rattle.block.specs.declared.Body.{Body}
use Rattle.block.specs.declared.Refused.{Refused}

-- what a block carries; why one is refused, and what is told with that
abbrev pub carried : ℕ → ℕ → Result Body Refused
carried code word = Ok (record { code = code; word = word })

abbrev pub refused : Refusal → ℕ → Result Body Refused
refused why told = Err (record { refusal = why; remainder = told })

-- the answer where the test holds, else the refusal, and what is told with it
abbrev pub must : Bool → Refusal → ℕ → Result Body Refused → Result Body Refused
must true why told answer = answer
must false why told answer = refused why told

-- a wrong check word tells the remainder of all fifty bits with the first inverted, any other refusal 0
unfoldable pub read_of : List ℕ → Result Body Refused
read_of s =
    must (eqb (length s) 50) WrongLength 0
    (must (are_bits s) NotABit 0
    (must (eqb (prefix_in s) 1) WrongPrefix 0
    (must (eqb (value (check_in s)) (check_of (body_in s))) WrongCheckWord (remainder (inverted s))
    (carried (value (code_in s)) (value (word_in s))))))

-- an answer as the paper's numbers: the refusal, 0 where there is none; code and word, 0 where refused; the remainder told, 0 with a
-- block
abbrev pub refusal_in : Result Body Refused → ℕ
refusal_in (Ok body) = 0
refusal_in (Err why) = number_of why.refusal

abbrev pub code_read : Result Body Refused → ℕ
code_read (Ok body) = body.code
code_read (Err why) = 0

abbrev pub word_read : Result Body Refused → ℕ
word_read (Ok body) = body.word
word_read (Err why) = 0

abbrev pub remainder_read : Result Body Refused → ℕ
remainder_read (Ok body) = 0
remainder_read (Err why) = why.remainder

-- an answer tells a remainder, of thirteen bits, exactly where it is a refusal with 4: so a 4 never tells 0
abbrev pub ToldWith4 : Result Body Refused → Type 0
ToldWith4 read = (eqb (remainder_read read) 0 ≡ not (eqb (refusal_in read) 4)) × (remainder_read read < 8192)
