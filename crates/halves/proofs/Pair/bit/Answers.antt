-- `Pair::bit` meets its contract: the bit is 1 where it says so and is not doubtful.
-- Assumes nothing.
use mathlib.Core.Bool.{Bool, true, false, not, cond, ◌&&◌}
use mathlib.Core.Path.{◌≡◌, refl}
use lib.Dec.{eqb}
use lib.Ieee.{Float, lt}
use Rattle.halves.specs.Decision.{doubtful, decision_of, one, zero, unsure, bit_of}
use Rattle.halves.specs.declared.Pair.{Pair}
use Rattle.halves.specs.declared.Polarity.{Polarity}
use Rattle.halves.specs.declared.Polarity.TheVariants.{AsItStands, Exchanged}
use Rattle.halves.proofs.Pair.bit.Goals as goal

by_tests : (polarity : Polarity) (unclear greater : Bool)
    → cond (eqb (bit_of polarity (cond greater one zero)) 1 && not unclear) 1 0 ≡ bit_of polarity (cond unclear unsure (cond greater one zero))
by_tests AsItStands true true = refl
by_tests AsItStands true false = refl
by_tests AsItStands false true = refl
by_tests AsItStands false false = refl
by_tests Exchanged true true = refl
by_tests Exchanged true false = refl
by_tests Exchanged false true = refl
by_tests Exchanged false false = refl

-- what the two tests found, and what follows
tested : (margin : Float) (p : Pair) (polarity : Polarity) {unclear sure : Bool} (test : Bool) → unclear ≡ doubtful margin p
    → sure ≡ eqb (bit_of polarity (cond (lt p.second p.first) one zero)) 1 → (sure && not unclear) ≡ test
    → cond test 1 0 ≡ bit_of polarity (decision_of margin p)
unfolding decision_of
tested margin p polarity test d e t = rw (← t, e, d) (by_tests polarity (doubtful margin p) (lt p.second p.first))

pub returns-then-one-doubtful : goal.returns-then-one-doubtful
returns-then-one-doubtful c =
    tested c.args.margin c.args.self c.args.polarity true c.is_doubtful-doubtful.ensures c.says_one-one.ensures c.if-one-doubtful.true

pub returns-else-one-doubtful : goal.returns-else-one-doubtful
returns-else-one-doubtful c =
    tested c.args.margin c.args.self c.args.polarity false c.is_doubtful-doubtful.ensures c.says_one-one.ensures c.if-one-doubtful.false
