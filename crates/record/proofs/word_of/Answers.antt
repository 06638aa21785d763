-- `record::word_of` meets its contract: the fields are in range, so no product or sum leaves the word.
-- Assumes nothing.
use native.Mathlib.Omega.{arith}
use Prim.Native.Nat.{◌<◌, ◌^◌}
use lib.Signed.{mag}
use mathlib.Core.Path.{◌≡◌, ap, ◌∙◌}
use Rattle.record.specs.Fields.{word_of, six_of}
use Rattle.record.specs.Ranges.{offset_in_range}
use Rattle.record.proofs.Offset.{back, six_fits}
use Rattle.record.proofs.Bounds.{bounds}
use Rattle.record.proofs.word_of.Goals as goal

pub overflow_mul-result : goal.overflow_mul-result
overflow_mul-result c = let b = bounds _ c.requires in omega arith

pub six_of-requires : goal.six_of-requires
six_of-requires c =
    ap offset_in_range (back (omega arith)) ∙ (bounds _ c.requires).time.offset_in

pub overflow_add-result : goal.overflow_add-result
overflow_add-result c =
    let b = bounds c.args.«record» c.requires in
    let six : c.six_of.result ≡ six_of c.args.«record».offset = c.six_of.ensures ∙ ap six_of (back (omega arith)) in
    omega (arith, six_fits c.args.«record».offset b.time.offset_in)

pub returns : goal.returns
unfolding word_of
returns c = let e : mag c.args.«record».offset < 2 ^ 7 = omega arith in rw (c.six_of.ensures, back e)
