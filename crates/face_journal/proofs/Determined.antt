-- Two results that a contract of this face allows for the same input are equal, lent bytes and the lent report included.
-- Assumes nothing.
use mathlib.Core.Path.{sym, ◌∙◌}
use Rattle.refusal.proofs.Determined.{Determined, Leaves}
use Rattle.face_journal.proofs.CompactedAnswerFromResultU64Refusal.from.Reads as told-compacted
use Rattle.face_journal.proofs.ShareAnswerFromResultShareRefusal.from.Reads as told-share
use Rattle.face_journal.proofs.lw_compact.Reads as compact
use Rattle.face_journal.proofs.lw_per_thousand.Reads as per_thousand
use Rattle.face_journal.proofs.lw_report_add.Reads as report-add
use Rattle.face_journal.proofs.lw_report_join.Reads as report-join
use Rattle.face_journal.proofs.lw_salvage.Reads as salvage

pub compact_determined : Determined compact.Post
compact_determined κs a x y s t p q = p.0 ∙ sym q.0

pub compact_leaves : Leaves compact.Post (λ κs s. s.0.now)
compact_leaves κs a x y s t p q = p.1 ∙ sym q.1

pub salvage_determined : Determined salvage.Post
salvage_determined κs a x y s t p q = p ∙ sym q

pub report_add_determined : Determined report-add.Post
report_add_determined κs a x y s t p q = p.0 ∙ sym q.0

pub report_add_leaves : Leaves report-add.Post (λ κs s. s.1.0.now)
report_add_leaves κs a x y s t p q = p.1 ∙ sym q.1

pub report_join_determined : Determined report-join.Post
report_join_determined κs a x y s t p q = p.0 ∙ sym q.0

pub report_join_leaves : Leaves report-join.Post (λ κs s. s.0.now)
report_join_leaves κs a x y s t p q = p.1 ∙ sym q.1

pub per_thousand_determined : Determined per_thousand.Post
per_thousand_determined κs a x y s t p q = p ∙ sym q

pub told_compacted_determined : Determined told-compacted.Post
told_compacted_determined κs a x y s t p q = p ∙ sym q

pub told_share_determined : Determined told-share.Post
told_share_determined κs a x y s t p q = p ∙ sym q
