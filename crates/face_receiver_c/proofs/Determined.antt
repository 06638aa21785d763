-- An export determines what the call that it hands on determines, lent places included: the two promise the same.
-- Assumes nothing.
use Rattle.refusal.proofs.Determined.{Determined, Leaves}
use Rattle.face_receiver.proofs.Determined as call
use Rattle.face_receiver_c.proofs.lw_feed.Reads as feed
use Rattle.face_receiver_c.proofs.lw_feed_packed.Reads as feed_packed
use Rattle.face_receiver_c.proofs.lw_fresh.Reads as fresh
use Rattle.face_receiver_c.proofs.lw_fresh_packed.Reads as fresh_packed
use Rattle.face_receiver_c.proofs.lw_run.Reads as run
use Rattle.face_receiver_c.proofs.lw_run_packed.Reads as run_packed
use Rattle.face_receiver_c.proofs.lw_watch_fresh.Reads as watch_fresh
use Rattle.face_receiver_c.proofs.lw_watch_run.Reads as watch_run
use Rattle.face_receiver_c.proofs.lw_why.Reads as why

pub fresh_determined : Determined fresh.Post
fresh_determined = call.fresh_determined

pub fresh_packed_determined : Determined fresh_packed.Post
fresh_packed_determined = call.fresh_packed_determined

pub watch_fresh_determined : Determined watch_fresh.Post
watch_fresh_determined = call.watch_fresh_determined

pub why_determined : Determined why.Post
why_determined = call.why_determined

pub feed_determined : Determined feed.Post
feed_determined = call.feed_determined

pub feed_leaves : Leaves feed.Post (λ κs s. s.1.0.now)
feed_leaves = call.feed_leaves

pub feed_packed_determined : Determined feed_packed.Post
feed_packed_determined = call.feed_packed_determined

pub feed_packed_leaves : Leaves feed_packed.Post (λ κs s. s.1.0.now)
feed_packed_leaves = call.feed_packed_leaves

pub run_determined : Determined run.Post
run_determined = call.run_determined

pub run_leaves : Leaves run.Post (λ κs s. s.1.0.now)
run_leaves = call.run_leaves

pub run_packed_determined : Determined run_packed.Post
run_packed_determined = call.run_packed_determined

pub run_packed_leaves : Leaves run_packed.Post (λ κs s. s.1.0.now)
run_packed_leaves = call.run_packed_leaves

pub watch_run_determined : Determined watch_run.Post
watch_run_determined = call.watch_run_determined

pub watch_run_leaves : Leaves watch_run.Post (λ κs s. s.1.0.now)
watch_run_leaves = call.watch_run_leaves
