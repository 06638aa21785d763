-- Two results that a contract allows for the same input are equal.
-- Assumes nothing.
use mathlib.Core.Path.{sym, ◌∙◌}
use Rattle.refusal.proofs.Determined.{Determined}
use Rattle.timekeeping.proofs.is_no_time.Reads as is_no_time
use Rattle.timekeeping.proofs.is_proper.Reads as is_proper
use Rattle.timekeeping.proofs.no_time.Reads as no_time
use Rattle.timekeeping.proofs.offered_to.Reads as offered_to

pub no_time_determined : Determined no_time.Post
no_time_determined κs a x y s t p q = p ∙ sym q

pub offered_to_determined : Determined offered_to.Post
offered_to_determined κs a x y s t p q = p ∙ sym q

pub is_no_time_determined : Determined is_no_time.Post
is_no_time_determined κs a x y s t p q = p ∙ sym q

pub is_proper_determined : Determined is_proper.Post
is_proper_determined κs a x y s t p q = p ∙ sym q
