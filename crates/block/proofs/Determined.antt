-- Two results that a contract allows for the same input are equal, lent bytes included. Each is said of the contract as the check reads it.
-- Assumes nothing.
use mathlib.Core.Path.{◌≡◌, sym, ap₂, ◌∙◌}
use Prim.Native.Nat.{ℕ}
use Rattle.refusal.proofs.Determined.{Determined, Leaves}
use Rattle.block.proofs.RefusalFromRefused.from.Reads as reason
use Rattle.block.proofs.RefusedFromRefusal.from.Reads as alone
use Rattle.block.proofs.choose.Reads as choose
use Rattle.block.proofs.choose_between.Reads as choose_between
use Rattle.block.proofs.choose_packed.Reads as choose_packed
use Rattle.block.proofs.circuit.remainder.Reads as remainder
use Rattle.block.proofs.circuit.turn.Reads as turn
use Rattle.block.proofs.pack.Reads as pack
use Rattle.block.proofs.read_block.Reads as read_block
use Rattle.block.proofs.read_by.Reads as read_by
use Rattle.block.proofs.read_packed.Reads as read_packed
use Rattle.block.proofs.unpack.Reads as unpack
use Rattle.block.proofs.write_block.Reads as write_block
use Rattle.block.proofs.write_packed.Reads as write_packed

pub alone_determined : Determined alone.Post
alone_determined κs a x y s t p q = p ∙ sym q

pub reason_determined : Determined reason.Post
reason_determined κs a x y s t p q = p ∙ sym q

pub turn_determined : Determined turn.Post
turn_determined κs a x y s t p q = p ∙ sym q

pub remainder_determined : Determined remainder.Post
remainder_determined κs a x y s t p q = p ∙ sym q

pub read_by_determined : Determined read_by.Post
read_by_determined κs a x y s t p q = p ∙ sym q

pub read_packed_determined : Determined read_packed.Post
read_packed_determined κs a x y s t p q = p ∙ sym q

pub write_packed_determined : Determined write_packed.Post
write_packed_determined κs a x y s t p q = p ∙ sym q

pub choose_packed_determined : Determined choose_packed.Post
choose_packed_determined κs a x y s t p q = p ∙ sym q

pub pack_determined : Determined pack.Post
pack_determined κs a x y s t p q = p ∙ sym q

pub unpack_determined : Determined unpack.Post
unpack_determined κs a x y s t p q = p.0 ∙ sym q.0

pub unpack_leaves : Leaves unpack.Post (λ κs s. s.1.0.now)
unpack_leaves κs a x y s t p q = p.1 ∙ sym q.1

pub read_block_determined : Determined read_block.Post
read_block_determined κs a x y s t p q = p ∙ sym q

pub write_block_determined : Determined write_block.Post
write_block_determined κs a x y s t p q = p.0 ∙ sym q.0

pub write_block_leaves : Leaves write_block.Post (λ κs s. s.1.1.0.now)
write_block_leaves κs a x y s t p q = p.1 ∙ sym q.1

pub choose_between_determined : Determined choose_between.Post
choose_between_determined κs a x y s t p q = p ∙ sym q

-- what is handed back is a loan, whose list and place are fixed
pub choose_determined : (κs : _) (a : _) (x y : _) (s t : _) → choose.Post κs a x s → choose.Post κs a y t → (x.now ≡ y.now) × (x.ref_ptr ≡ y.ref_ptr)
choose_determined κs a x y s t p q = (p.0 ∙ sym q.0, p.1.1.0 ∙ sym q.1.1.0)

pub choose_leaves : Leaves {X = ℕ × ℕ} choose.Post (λ κs s. (s.1.1.0.now, s.1.1.1.0.now))
choose_leaves κs a x y s t p q = ap₂ (λ (n r : ℕ). (n, r)) (p.1.1.1.0 ∙ sym q.1.1.1.0) (p.1.1.1.1 ∙ sym q.1.1.1.1)
