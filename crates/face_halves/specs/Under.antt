-- Deciding under the polarity that a number names, 0 as it stands and 1 exchanged; another gets 6 before every other test, and the slice stays
-- as it was (02, No. 1).
-- Assumes nothing.
use Rattle.std.specs.Prelude.{cond, List, ℕ, ltb, Float, Result, Err}
use Rattle.refusal.specs.declared.Refusal.{Refusal}
use Rattle.refusal.specs.declared.Refusal.TheVariants.{OutOfRange}
use Rattle.halves.specs.Answer.{plan_of, written_of}
use Rattle.halves.specs.Polarities.{polarity_of}
use Rattle.halves.specs.declared.Decided.{Decided}

unfoldable pub decided_under : ℕ → List Float → Float → ℕ → Result Decided Refusal
decided_under number readings margin room = cond (ltb 1 number) (Err OutOfRange) (plan_of readings margin room)

unfoldable pub written_under : ℕ → List Float → Float → List ℕ → List ℕ
written_under number readings margin held = cond (ltb 1 number) held (written_of readings margin (polarity_of number) held)
