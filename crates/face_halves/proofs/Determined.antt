-- Two results that the contract of this face allows for the same input are equal, lent bytes included.
-- Assumes nothing.
use mathlib.Core.Path.{sym, ◌∙◌}
use Rattle.refusal.proofs.Determined.{Determined, Leaves}
use Rattle.face_halves.proofs.DecidedAnswerFromResultDecidedRefusal.from.Reads as told
use Rattle.face_halves.proofs.lw_decide.Reads as decide

pub decide_determined : Determined decide.Post
decide_determined κs a x y s t p q = p.0 ∙ sym q.0

pub decide_leaves : Leaves decide.Post (λ κs s. s.1.1.1.0.now)
decide_leaves κs a x y s t p q = p.1 ∙ sym q.1

pub told_determined : Determined told.Post
told_determined κs a x y s t p q = p ∙ sym q
