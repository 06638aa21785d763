-- `put_pair` meets its contract: two numbers, one behind the other.
-- Assumes nothing.
use mathlib.Core.Path.{◌∙◌}
use Prim.Native.Nat.{◌+◌}
use native.Mathlib.Omega.{arith}
use Rattle.big_endian.proofs.Bytes.{put_part}
use Rattle.journal.proofs.Sixteens.{pair_there, half_length}
use Rattle.journal.proofs.entries.put_pair.Goals as goal

pub returns : goal.returns
returns c =
    let a = c.args in
    let half = put_part a.journal.now a.at 8 a.first (omega (arith, c.requires)) c.store.ensures in
    put_part _ (a.at + 8) 8 a.second (omega (arith, c.requires, half_length a.journal.now a.at a.first a.second c.requires half)) c.store-2.ensures
    ∙ pair_there a.journal.now a.at a.first a.second c.requires half
