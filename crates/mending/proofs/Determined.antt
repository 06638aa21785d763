-- Two results that a contract allows for the same input are equal, lent bytes included.
-- Assumes nothing.
use Rattle.refusal.proofs.Determined.{Determined, Leaves}
use Rattle.mending.proofs.Once.{once}
use Rattle.mending.proofs.mend.Reads as mend

pub mend_determined : Determined mend.Post
mend_determined κs a x y s t p q = (once _ x y _ _ p q).0

pub mend_leaves : Leaves mend.Post (λ κs s. s.0.now)
mend_leaves κs a x y s t p q = (once _ x y _ _ p q).1
