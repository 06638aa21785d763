-- `read_block` meets its contract: fifty bits read as their number does, and what does not pack is refused for the same reason.
-- Assumes nothing.
use Rattle.std.proofs.lemmas.Result.{err_from_is_err_and}
use mathlib.Core.Path.{sym, ap, ◌∙◌}
use Rattle.block.specs.Packed.{read_packed}
use Rattle.block.proofs.Packing.{packs, packs_not}
use Rattle.block.proofs.Reading.{packed_reads}
use Rattle.block.proofs.read_block.Goals as goal

pub returns-in_err-pack : goal.returns-in_err-pack
returns-in_err-pack c =
    let p = err_from_is_err_and c.from_residual.result c.from_residual.ensures.1 in
    rw (p.1, p.2) (sym (packs_not c.args.block.now _ (sym c.pack.ensures ∙ c.in_err-pack.was)))

pub returns : goal.returns
returns c =
    let s = c.args.block.now in
    let p = packs s _ (sym c.pack.ensures ∙ c.in_ok-pack.was) in
    c.read_packed.ensures ∙ ap read_packed (sym p.number) ∙ packed_reads s p.size p.bits
