-- Two results that the contract of this face allows for the same input are equal, lent bytes included.
-- Assumes nothing.
use mathlib.Core.Path.{sym, ap, ◌∙◌}
use Rattle.mending.proofs.Once.{once}
use Rattle.refusal.proofs.Determined.{Determined, Leaves}
use Rattle.face_mending.specs.Face.{mended_face}
use Rattle.face_mending.proofs.MendedAnswerFromResultChangeRefusal.from.Reads as told
use Rattle.face_mending.proofs.lw_mend_block.Reads as mend-block

pub mend_block_determined : Determined mend-block.Post
mend_block_determined κs a x y s t p q = p.flat ∙ ap mended_face (once _ _ _ _ _ p.mends q.mends).0 ∙ sym q.flat

pub mend_block_leaves : Leaves mend-block.Post (λ κs s. s.0.now)
mend_block_leaves κs a x y s t p q = (once _ _ _ _ _ p.mends q.mends).1

pub told_determined : Determined told.Post
told_determined κs a x y s t p q = p ∙ sym q
