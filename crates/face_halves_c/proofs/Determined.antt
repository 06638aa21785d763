-- An export determines what the call that it hands on determines, lent places included: the two promise the same.
-- Assumes nothing.
use Rattle.refusal.proofs.Determined.{Determined, Leaves}
use Rattle.face_halves.proofs.Determined as call
use Rattle.face_halves_c.proofs.lw_decide.Reads as decide

pub decide_determined : Determined decide.Post
decide_determined = call.decide_determined

pub decide_leaves : Leaves decide.Post (λ κs s. s.1.1.1.0.now)
decide_leaves = call.decide_leaves
