-- Two results that a contract allows for the same input are equal, the report that is lent included.
-- Assumes nothing.
use mathlib.Core.Path.{◌≡◌, sym, ◌∙◌}
use Rattle.refusal.proofs.Determined.{Determined, Leaves}
use Rattle.reception.specs.Adding.{HasRoom}
use Rattle.reception.proofs.Parts.{room}
use Rattle.reception.proofs.Report.add.Reads as add
use Rattle.reception.proofs.Report.count_all.Reads as count_all
use Rattle.reception.proofs.Report.is_proper.Reads as is_proper
use Rattle.reception.proofs.Report.join.Reads as join
use Rattle.reception.proofs.Report.per_thousand.Reads as per_thousand

pub is_proper_determined : Determined is_proper.Post
is_proper_determined κs a x y s t p q = p ∙ sym q

pub join_determined : Determined join.Post
join_determined κs a x y s t p q = p.0 ∙ sym q.0

pub join_leaves : Leaves join.Post (λ κs s. s.0.now)
join_leaves κs a x y s t p q = p.1 ∙ sym q.1

pub add_determined : Determined add.Post
add_determined κs a x y s t p q = p.0 ∙ sym q.0

pub add_leaves : Leaves add.Post (λ κs s. s.0.now)
add_leaves κs a x y s t p q = p.1 ∙ sym q.1

pub per_thousand_determined : Determined per_thousand.Post
per_thousand_determined κs a x y s t p q = p ∙ sym q

pub count_all_leaves : Leaves count_all.Post (λ κs s. s.0.now)
count_all_leaves κs a x y s t p q = either (room a.0.now a.1.1.0.now)
  where
    either : Dec (HasRoom a.0.now a.1.1.0.now) → s.0.now ≡ t.0.now
    either (yes there) = p.0 there ∙ sym (q.0 there)
    either (no none) = p.1 none ∙ sym (q.1 none)
