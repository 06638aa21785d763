-- Two results that a contract allows for the same input are equal.
-- Assumes nothing.
use mathlib.Core.Path.{sym, ◌∙◌}
use Rattle.refusal.proofs.Determined.{Determined, Leaves}
use Rattle.big_endian.proofs.number_at.Reads as number_at
use Rattle.big_endian.proofs.number_of.Reads as number_of
use Rattle.big_endian.proofs.store.Reads as store

pub number_of_determined : Determined number_of.Post
number_of_determined κs a x y s t p q = p.kept ∙ sym q.kept

pub store_leaves : Leaves store.Post (λ κs s. s.0.now)
store_leaves κs a x y s t p q = p ∙ sym q

pub number_at_determined : Determined number_at.Post
number_at_determined κs a x y s t p q = p ∙ sym q
