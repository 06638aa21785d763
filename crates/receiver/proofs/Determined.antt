-- Two results that a contract allows for the same input are equal.
-- Assumes nothing.
use mathlib.Core.Path.{sym, ◌∙◌}
use denote.Param.Laws.{Laws}
use denote.RattleType.{RattleType}
use Rattle.refusal.proofs.Determined.{Determined}
use Rattle.receiver.proofs.fresh.Reads as fresh
use Rattle.receiver.proofs.fresh_packed.Reads as fresh_packed
use Rattle.receiver.proofs.is_proper.Reads as is_proper
use Rattle.receiver.proofs.later.Reads as later
use Rattle.receiver.proofs.refused.Reads as refused
use Rattle.receiver.proofs.run.Reads as run
use Rattle.receiver.proofs.run_packed.Reads as run_packed
use Rattle.receiver.proofs.run_until.Reads as run_until
use Rattle.receiver.proofs.states.PackedStateTryFromState.try_from.Reads as packing
use Rattle.receiver.proofs.states.StateFromPackedState.from.Reads as unpacking
use Rattle.receiver.proofs.step.Reads as step
use Rattle.receiver.proofs.step_packed.Reads as step_packed

pub fresh_determined : Determined fresh.Post
fresh_determined κs a x y s t p q = p ∙ sym q

pub run_determined : Determined run.Post
run_determined κs a x y s t p q = p ∙ sym q

pub run_until_determined : Determined run_until.Post
run_until_determined κs a x y s t p q = p ∙ sym q

pub step_determined : Determined step.Post
step_determined κs a x y s t p q = p ∙ sym q

pub fresh_packed_determined : Determined fresh_packed.Post
fresh_packed_determined κs a x y s t p q = p ∙ sym q

pub run_packed_determined : Determined run_packed.Post
run_packed_determined κs a x y s t p q = p ∙ sym q

pub step_packed_determined : Determined step_packed.Post
step_packed_determined κs a x y s t p q = p ∙ sym q

pub refused_determined : (S : RattleType) (laws : Laws S) → Determined (refused.Post S laws)
refused_determined S laws κs a x y s t p q = p ∙ sym q

pub is_proper_determined : Determined is_proper.Post
is_proper_determined κs a x y s t p q = p ∙ sym q

pub later_determined : Determined later.Post
later_determined κs a x y s t p q = p ∙ sym q

pub packing_determined : Determined packing.Post
packing_determined κs a x y s t p q = p ∙ sym q

pub unpacking_determined : Determined unpacking.Post
unpacking_determined κs a x y s t p q = p ∙ sym q
