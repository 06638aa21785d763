-- Two results that a contract allows for the same input are equal.
-- Assumes nothing.
use mathlib.Core.Path.{sym, ◌∙◌}
use Rattle.refusal.proofs.Determined.{Determined}
use Rattle.locking.proofs.fresh_lock.Reads as fresh_lock
use Rattle.locking.proofs.is_proper.Reads as is_proper
use Rattle.locking.proofs.judge.Reads as judge

pub fresh_lock_determined : Determined fresh_lock.Post
fresh_lock_determined κs a x y s t p q = p ∙ sym q

pub judge_determined : Determined judge.Post
judge_determined κs a x y s t p q = p ∙ sym q

pub is_proper_determined : Determined is_proper.Post
is_proper_determined κs a x y s t p q = p ∙ sym q
