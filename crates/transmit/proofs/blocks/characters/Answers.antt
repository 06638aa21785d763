-- `characters` meets its contract: each bit has its character.
-- Assumes nothing.
use Rattle.std.proofs.Common.{◌∙◌, map, sym, arith}
use Rattle.std.proofs.lemmas.List.{get_or-map, length-map, take_all, take_more, take_more_set}
use Rattle.transmit.specs.Blocks.{character_of}
use Rattle.transmit.proofs.blocks.characters.Goals as goal

pub loop-i-preserved : goal.loop-i-preserved
loop-i-preserved c =
    let bits = c.args.bits in
    let i = c.loop-i.i in
    take_more_set c.loop-i.place-items i _ (omega arith)
    ∙ rw (c.loop-i.invariant, c.character.ensures, ← get_or-map character_of bits i 0 0 (omega arith))
    (sym (take_more (map character_of bits) i 0 (omega (arith, length-map bits character_of))))

pub returns : goal.returns
returns c =
    let bits = c.args.bits in
    let i = c.loop-i.i in
    sym (take_all i c.loop-i.place-items (omega arith)) ∙ c.loop-i.invariant ∙ take_all i (map character_of bits) (omega (arith, length-map bits character_of))
