-- The polarity that a number names (02, No. 1).
-- Assumes nothing.
use Rattle.std.specs.Prelude.{cond, ℕ, eqb}
use Rattle.halves.specs.declared.Polarity.{Polarity}
use Rattle.halves.specs.declared.Polarity.TheVariants.{AsItStands, Exchanged}

-- of the two numbers that name one, 0 as it stands and 1 exchanged
abbrev pub polarity_of : ℕ → Polarity
polarity_of number = cond (eqb number 0) AsItStands Exchanged
