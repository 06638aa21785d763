-- `record::fields` meets its contract: each field is the quotient and remainder of its definition.
-- Assumes nothing.
use Prim.Native.Nat.{◌/◌, ◌%◌}
use native.Mathlib.Omega.{arith}
use mathlib.Core.Path.{◌≡◌}
use mir.Facts.{to_z-of_z}
use Rattle.record.specs.Fields.{fields_of}
use Rattle.record.proofs.Offset.{offset_fits}
use Rattle.record.proofs.fields.Goals as goal

pub returns : goal.returns
unfolding fields_of
returns c =
    let whole : c.args.word / 1 % 64 ≡ c.args.word % 64 = omega arith in
    rw (c.offset_of.ensures, to_z-of_z (offset_fits (c.args.word % 64) (omega arith)), whole)
