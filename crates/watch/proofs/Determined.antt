-- Two results that a contract allows for the same input are equal.
-- Assumes nothing.
use mathlib.Core.Path.{sym, ◌∙◌}
use Rattle.refusal.proofs.Determined.{Determined}
use Rattle.watch.proofs.fresh.Reads as fresh
use Rattle.watch.proofs.run.Reads as run
use Rattle.watch.proofs.why.Reads as why

pub fresh_determined : Determined fresh.Post
fresh_determined κs a x y s t p q = p ∙ sym q

pub run_determined : Determined run.Post
run_determined κs a x y s t p q = p ∙ sym q

pub why_determined : Determined why.Post
why_determined κs a x y s t p q = p ∙ sym q
