-- Two results that a contract allows for the same input are equal.
-- Assumes nothing.
use mathlib.Core.Path.{sym, ◌∙◌}
use Rattle.refusal.proofs.Determined.{Determined}
use Rattle.field16.proofs.times.Reads as times
use Rattle.field16.proofs.over.Reads as over

pub times_determined : Determined times.Post
times_determined κs a x y s t p q = p ∙ sym q

pub over_determined : Determined over.Post
over_determined κs a x y s t p q = p ∙ sym q
