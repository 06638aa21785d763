-- Two results that a contract allows for the same input are equal. Each is said of the contract as the check reads it.
-- Assumes nothing.
use mathlib.Core.Path.{sym, ◌∙◌}
use Rattle.refusal.proofs.Determined.{Determined}
use Rattle.joining.proofs.join.Reads as join
use Rattle.joining.proofs.remainder_of.Reads as remainder_of

pub remainder_of_determined : Determined remainder_of.Post
remainder_of_determined κs a x y s t p q = p ∙ sym q

pub join_determined : Determined join.Post
join_determined κs a x y s t p q = p ∙ sym q
