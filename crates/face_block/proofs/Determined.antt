-- Two results that a contract of this face allows for the same input are equal, lent bytes included.
-- Assumes nothing.
use mathlib.Core.Path.{sym, ap₂, ◌∙◌}
use Prim.Native.Nat.{ℕ}
use Rattle.refusal.proofs.Determined.{Determined, Leaves}
use Rattle.face_block.proofs.BlockAnswerFromResultBodyRefused.from.Reads as told
use Rattle.face_block.proofs.PackedAnswerFromResultU64Refusal.from.Reads as told_packed
use Rattle.face_block.proofs.lw_choose.Reads as choose
use Rattle.face_block.proofs.lw_choose_packed.Reads as choose_packed
use Rattle.face_block.proofs.lw_pack.Reads as pack
use Rattle.face_block.proofs.lw_read_block.Reads as read_block
use Rattle.face_block.proofs.lw_read_packed.Reads as read_packed
use Rattle.face_block.proofs.lw_unpack.Reads as unpack
use Rattle.face_block.proofs.lw_version.Reads as version
use Rattle.face_block.proofs.lw_write_block.Reads as write_block
use Rattle.face_block.proofs.lw_write_packed.Reads as write_packed

pub read_block_determined : Determined read_block.Post
read_block_determined κs a x y s t p q = p ∙ sym q

pub write_block_determined : Determined write_block.Post
write_block_determined κs a x y s t p q = p.0 ∙ sym q.0

pub write_block_leaves : Leaves write_block.Post (λ κs s. s.1.1.0.now)
write_block_leaves κs a x y s t p q = p.1 ∙ sym q.1

pub choose_determined : Determined choose.Post
choose_determined κs a x y s t p q = p.0 ∙ sym q.0

pub choose_leaves : Leaves {X = ℕ × ℕ} choose.Post (λ κs s. (s.1.1.0.now, s.1.1.1.0.now))
choose_leaves κs a x y s t p q = ap₂ (λ (n r : ℕ). (n, r)) (p.1.0 ∙ sym q.1.0) (p.1.1 ∙ sym q.1.1)

pub read_packed_determined : Determined read_packed.Post
read_packed_determined κs a x y s t p q = p ∙ sym q

pub write_packed_determined : Determined write_packed.Post
write_packed_determined κs a x y s t p q = p ∙ sym q

pub choose_packed_determined : Determined choose_packed.Post
choose_packed_determined κs a x y s t p q = p.0 ∙ sym q.0

pub choose_packed_leaves : Leaves {X = ℕ × ℕ} choose_packed.Post (λ κs s. (s.1.1.0.now, s.1.1.1.0.now))
choose_packed_leaves κs a x y s t p q = ap₂ (λ (n r : ℕ). (n, r)) (p.1.0 ∙ sym q.1.0) (p.1.1 ∙ sym q.1.1)

pub pack_determined : Determined pack.Post
pack_determined κs a x y s t p q = p ∙ sym q

pub unpack_determined : Determined unpack.Post
unpack_determined κs a x y s t p q = p.0 ∙ sym q.0

pub unpack_leaves : Leaves unpack.Post (λ κs s. s.1.0.now)
unpack_leaves κs a x y s t p q = p.1 ∙ sym q.1

pub version_determined : Determined version.Post
version_determined κs a x y s t p q = p ∙ sym q

pub told_determined : Determined told.Post
told_determined κs a x y s t p q = p ∙ sym q

pub told_packed_determined : Determined told_packed.Post
told_packed_determined κs a x y s t p q = p ∙ sym q
