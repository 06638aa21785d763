-- Two results that a contract allows for the same input are equal, the lent state included.
-- Assumes nothing.
use mathlib.Core.Path.{sym, ◌∙◌}
use Rattle.refusal.proofs.Determined.{Determined, Leaves}
use Rattle.face_receiver.proofs.StandingAnswerFromResultStandingRefusal.from.Reads as answered
use Rattle.face_receiver.proofs.StandingAnswerFromStanding.from.Reads as told
use Rattle.face_receiver.proofs.lw_feed.Reads as feed
use Rattle.face_receiver.proofs.lw_feed_packed.Reads as feed_packed
use Rattle.face_receiver.proofs.lw_fresh.Reads as fresh
use Rattle.face_receiver.proofs.lw_fresh_packed.Reads as fresh_packed
use Rattle.face_receiver.proofs.lw_run.Reads as run
use Rattle.face_receiver.proofs.lw_run_packed.Reads as run_packed
use Rattle.face_receiver.proofs.lw_watch_fresh.Reads as watch_fresh
use Rattle.face_receiver.proofs.lw_watch_run.Reads as watch_run
use Rattle.face_receiver.proofs.lw_why.Reads as why

pub fresh_determined : Determined fresh.Post
fresh_determined κs a x y s t p q = p ∙ sym q

pub fresh_packed_determined : Determined fresh_packed.Post
fresh_packed_determined κs a x y s t p q = p ∙ sym q

pub watch_fresh_determined : Determined watch_fresh.Post
watch_fresh_determined κs a x y s t p q = p ∙ sym q

pub why_determined : Determined why.Post
why_determined κs a x y s t p q = p ∙ sym q

pub feed_determined : Determined feed.Post
feed_determined κs a x y s t p q = p.0 ∙ sym q.0

pub feed_leaves : Leaves feed.Post (λ κs s. s.1.0.now)
feed_leaves κs a x y s t p q = p.1 ∙ sym q.1

pub feed_packed_determined : Determined feed_packed.Post
feed_packed_determined κs a x y s t p q = p.0 ∙ sym q.0

pub feed_packed_leaves : Leaves feed_packed.Post (λ κs s. s.1.0.now)
feed_packed_leaves κs a x y s t p q = p.1 ∙ sym q.1

pub run_determined : Determined run.Post
run_determined κs a x y s t p q = p.0 ∙ sym q.0

pub run_leaves : Leaves run.Post (λ κs s. s.1.0.now)
run_leaves κs a x y s t p q = p.1 ∙ sym q.1

pub run_packed_determined : Determined run_packed.Post
run_packed_determined κs a x y s t p q = p.0 ∙ sym q.0

pub run_packed_leaves : Leaves run_packed.Post (λ κs s. s.1.0.now)
run_packed_leaves κs a x y s t p q = p.1 ∙ sym q.1

pub watch_run_determined : Determined watch_run.Post
watch_run_determined κs a x y s t p q = p.0 ∙ sym q.0

pub watch_run_leaves : Leaves watch_run.Post (λ κs s. s.1.0.now)
watch_run_leaves κs a x y s t p q = p.1 ∙ sym q.1

pub told_determined : Determined told.Post
told_determined κs a x y s t p q = p ∙ sym q

pub answered_determined : Determined answered.Post
answered_determined κs a x y s t p q = p ∙ sym q
