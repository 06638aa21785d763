-- Two results that a contract allows for the same input are equal, lent bytes included.
-- Assumes nothing.
use mathlib.Core.Path.{sym, ◌∙◌}
use Rattle.refusal.proofs.Determined.{Determined, Leaves}
use Rattle.journal.proofs.compact.Reads as compact
use Rattle.journal.proofs.find_wanted.Reads as find_wanted
use Rattle.journal.proofs.salvage.Reads as salvage

pub find_wanted_determined : Determined find_wanted.Post
find_wanted_determined κs a x y s t p q = p ∙ sym q

pub compact_determined : Determined compact.Post
compact_determined κs a x y s t p q = p.0 ∙ sym q.0

pub compact_leaves : Leaves compact.Post (λ κs s. s.0.now)
compact_leaves κs a x y s t p q = p.1 ∙ sym q.1

pub salvage_determined : Determined salvage.Post
salvage_determined κs a x y s t p q = p ∙ sym q
