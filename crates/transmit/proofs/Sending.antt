-- One block after some others leaves what one block more than those leaves.
-- Assumes nothing.
use Rattle.std.proofs.Common.{◌≡◌, ℕ, zero, suc, ◌+◌, refl, sym, ap, ◌∙◌, add-one}
use Rattle.transmit.specs.Blocks.{after_of, after_blocks, Follows}
use Rattle.transmit.specs.declared.blocks.Left.{Left}

last : (k : ℕ) (start : Left) → after_blocks (suc k) start ≡ after_of (after_blocks k start)
unfolding after_blocks
last zero start = refl
last (suc k) start = last k (after_of start)

pub one_more : (k : ℕ) (start : Left) {left next : Left} → Follows k start left → Follows 1 left next → Follows (k + 1) start next
unfolding after_blocks
one_more k start e f = rw add-one (f ∙ ap after_of e ∙ sym (last k start))
