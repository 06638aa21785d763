-- Two results that a contract of this face allows for the same input are equal.
-- Assumes nothing.
use mathlib.Core.Path.{sym, ◌∙◌}
use Rattle.refusal.proofs.Determined.{Determined}
use Rattle.face_joining.proofs.RemainderAnswerFromResultU16Refusal.from.Reads as told
use Rattle.face_joining.proofs.lw_join.Reads as join
use Rattle.face_joining.proofs.lw_remainder_of.Reads as remainder_of

pub remainder_of_determined : Determined remainder_of.Post
remainder_of_determined κs a x y s t p q = p ∙ sym q

pub join_determined : Determined join.Post
join_determined κs a x y s t p q = p ∙ sym q

pub told_determined : Determined told.Post
told_determined κs a x y s t p q = p ∙ sym q
