-- `salvage` meets its contract: what the sound entries take, and what is left.
-- Assumes nothing.
use native.Mathlib.Omega.{arith}
use Rattle.journal.specs.Salvage.{salvaged_of}
use Rattle.journal.proofs.Salvaging.{kept_inside, kept_is}
use Rattle.journal.proofs.salvage.Goals as goal

pub overflow_mul-kept : goal.overflow_mul-kept
overflow_mul-kept c =
    let s = c.args.journal.now in
    omega (arith, kept_is s c.check_entries-kept.ensures, kept_inside s)

pub overflow_sub-result : goal.overflow_sub-result
overflow_sub-result c =
    let s = c.args.journal.now in
    omega (arith, kept_is s c.check_entries-kept.ensures, kept_inside s)

pub returns : goal.returns
unfolding salvaged_of
returns c = rw (kept_is c.args.journal.now c.check_entries-kept.ensures)
