-- Two results that the contract allows for the same input are equal, lent bytes included.
-- Assumes nothing.
use mathlib.Core.Path.{sym, ◌∙◌}
use Rattle.refusal.proofs.Determined.{Determined, Leaves}
use Rattle.halves.proofs.PolarityFromU8.from.Reads as polarity
use Rattle.halves.proofs.U8FromPairing.from.Reads as start
use Rattle.halves.proofs.decide.Reads as decide
use Rattle.halves.proofs.pairs.PairFromArrayF322.from.Reads as pair

pub decide_determined : Determined decide.Post
decide_determined κs a x y s t p q = p.0 ∙ sym q.0

pub decide_leaves : Leaves decide.Post (λ κs s. s.1.1.1.0.now)
decide_leaves κs a x y s t p q = p.1 ∙ sym q.1

pub polarity_determined : Determined polarity.Post
polarity_determined κs a x y s t p q = p ∙ sym q

pub start_determined : Determined start.Post
start_determined κs a x y s t p q = p ∙ sym q

pub pair_determined : Determined pair.Post
pair_determined κs a x y s t p q = p ∙ sym q
