-- `hear` meets its contract: the run up to the change is that of its bits, and the totals and what is said follow from it.
-- Assumes nothing.
use Rattle.std.proofs.Common.{ℕ, ◌<◌, List, length, ap, arith}
use Rattle.receiver.specs.declared.Until.TheVariants.{LockChange}
use Rattle.receiver.specs.Packed.{unpacked}
use Rattle.receiver.specs.Changes.{up_to}
use Rattle.receiver.proofs.Changes.{up_to_some, up_to_bits, bits_taken}
use Rattle.receive.specs.Totals.{edition, heard_of}
use Rattle.receive.proofs.Hearing.{said_last, after_run}
use Rattle.receive.proofs.totals.hear.Goals as goal

pub returns : goal.returns
unfolding heard_of
returns c =
    let k = c.args.kept in
    let bits = c.args.bits.now in
    let part : List ℕ = up_to edition LockChange (unpacked k.state) bits in
    let some : 0 < length part = up_to_some edition LockChange (unpacked k.state) bits c.requires.2 in
    let fed = up_to_bits edition LockChange (unpacked k.state) bits c.requires.1 in
    rw (
      said_last k bits c.requires.1 c.requires.0,
      after_run k part (λ e. absurd (omega (arith, ap length e))) fed c.requires.0,
      c.said_at.ensures,
      c.from-3.ensures,
      c.from-2.ensures,
      c.from.ensures,
      c.run_until-stretch.ensures,
      bits_taken edition LockChange k.state bits c.requires.0 c.requires.1 c.requires.3,
    )
