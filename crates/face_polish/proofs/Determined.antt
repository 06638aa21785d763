-- Two results that a contract of this face allows for the same input are equal, lent bytes included.
-- Assumes nothing.
use mathlib.Core.Path.{sym, ap, ◌∙◌}
use Rattle.polish.proofs.Determined.{reads_determined}
use Rattle.refusal.proofs.Determined.{Determined, Leaves}
use Rattle.face_polish.specs.Face.{polish_face}
use Rattle.face_polish.proofs.PolishAnswerFromResultTimeRefusal.from.Reads as told
use Rattle.face_polish.proofs.lw_read_polish.Reads as read-polish
use Rattle.face_polish.proofs.lw_write_polish.Reads as write-polish

pub read_polish_determined : Determined read-polish.Post
read_polish_determined κs a x y s t p q = p.flat ∙ ap polish_face (reads_determined _ p.reads q.reads) ∙ sym q.flat

pub write_polish_determined : Determined write-polish.Post
write_polish_determined κs a x y s t p q = p.0 ∙ sym q.0

pub write_polish_leaves : Leaves write-polish.Post (λ κs s. s.1.0.now)
write_polish_leaves κs a x y s t p q = p.1 ∙ sym q.1

pub told_determined : Determined told.Post
told_determined κs a x y s t p q = p ∙ sym q
