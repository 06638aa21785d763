-- Two aerials: the first slice if it is good, else the second if it is good, else a refusal (01, "The block").
-- Assumes nothing.
use Rattle.std.specs.Prelude.{List, ℕ, Result, Ok, Err}
use Rattle.refusal.specs.Numbers.{number_of}
use Rattle.block.specs.Read.{read_of}
use Rattle.block.specs.declared.Aerial.{Aerial}
use Rattle.block.specs.declared.Aerial.TheVariants.{First, Second}
use Rattle.block.specs.declared.Body.{Body}
use Rattle.block.specs.declared.Refused.{Refused}

-- by what the two slices read as; the refusal is the one that the first gets, with the remainder that it tells
abbrev pub between : Result Body Refused → Result Body Refused → Result Aerial Refused
between (Ok body) second = Ok First
between (Err why) (Ok body) = Ok Second
between (Err why) (Err other) = Err why

unfoldable pub choice_of : List ℕ → List ℕ → Result Aerial Refused
choice_of first second = between (read_of first) (read_of second)

-- one of three things, by the choice
abbrev pub chosen : {X : Type 0} → Result Aerial Refused → X → X → X → X
chosen (Ok First) one two none = one
chosen (Ok Second) one two none = two
chosen (Err why) one two none = none

-- the number and the remainder that are told: 0 with a block, else the refusal's (02, No. 7)
abbrev pub number_told : Result Aerial Refused → ℕ
number_told (Ok aerial) = 0
number_told (Err why) = number_of why.refusal

abbrev pub remainder_told : Result Aerial Refused → ℕ
remainder_told (Ok aerial) = 0
remainder_told (Err why) = why.remainder
