-- `all_in_range` meets its contract: the tests are put together from the first reading on.
-- Assumes nothing.
use Rattle.std.proofs.Common.{◌≡◌, sym, ◌∙◌, rules, tests, Bool, true, List, [], ◌∷◌}
use Rattle.std.proofs.Math.Bool.{and-true, and_assoc}
use Rattle.std.proofs.lemmas.Iterator.{YieldsList-from_slice}
use Rattle.std.proofs.lemmas.Iterator.Consumers.{fold_from_yields_List}
use Rattle.std.specs.Prelude.{◌&&◌, Float, fold}
use Rattle.halves.specs.Readings.{in_range, all_in_range}
use Rattle.halves.proofs.readings.all_in_range.Goals as goal

folded : (fine : Bool) (xs : List Float) → fold (λ t x. t && in_range x) fine xs ≡ (fine && all_in_range xs)
unfolding all_in_range
folded fine [] = sym (and-true fine)
folded fine (x ∷ xs) = folded (fine && in_range x) xs ∙ and_assoc fine (in_range x) (all_in_range xs)

pub returns : goal.returns
returns c =
    fold_from_yields_List _ (λ t x. t && in_range x) true _ c.fold.ensures.ran (YieldsList-from_slice c.args.readings.now cc) (λ a x b q k. search (rules, tests))
    ∙ folded true c.args.readings.now
