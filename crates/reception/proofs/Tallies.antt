-- Tallies of entries: each entry counts once, what is whole stays whole, and entries behind others add up.
-- Assumes nothing.
use mathlib.Core.List.{[], ◌∷◌}
use mathlib.Core.Path.{◌≡◌, refl, sym, ap, ◌∙◌}
use Prim.Native.Nat.{◌+◌, ◌^◌, ◌≤◌}
use native.Mathlib.Omega.{arith}
use lib.ListN.{length}
use Rattle.block.specs.Packed.{read_packed}
use Rattle.reception.specs.Laws.{Sixteen, Sound, TalliesAdd, TalliesWhole, Whole}
use Rattle.reception.specs.Reports.{fresh_report, plus}
use Rattle.reception.specs.Tally.{one_block, tally_of}
use Rattle.reception.specs.declared.Report.{Report}
use Rattle.reception.proofs.Blocks.{one_is_one, one_sixteen, one_whole}
use Rattle.reception.proofs.Parts.{is_proper_lem, parts}
use Rattle.reception.proofs.Sums.{plus_assoc, fresh_plus}
use Rattle.reception.proofs.Totals.{length_adds, place_adds, total_adds, total_zeros}

module _ (r s : Report) (hr : Sixteen r) (hs : Sixteen s) where
  pub plus_sixteen : Sixteen (plus r s)
  plus_sixteen = length_adds r.codes s.codes (hr ∙ sym hs) ∙ hr

  pub plus_whole : Whole r → Whole s → Whole (plus r s)
  plus_whole a b =
      let same : length r.codes ≡ length s.codes = hr ∙ sym hs in
      record {
        good = omega arith;
        fillers = omega (arith, place_adds r.codes s.codes 0 same);
        codes = omega (arith, total_adds r.codes s.codes same);
      }

-- what comes to a proper report leaves it proper up to 2^32 blocks
pub plus_proper : (r s : Report) → Sound r → Sixteen s → Whole s → r.blocks + s.blocks ≤ 2 ^ 32 → Sound (plus r s)
plus_proper r s p hs w few =
    (is_proper_lem (plus r s) few (plus_whole r s p.1 hs (parts r p.0).1 w), plus_sixteen r s p.1 hs)

pub fresh_whole : Whole fresh_report
fresh_whole = record { good = omega arith; fillers = omega arith; codes = total_zeros 16 }

pub tallies_whole : TalliesWhole
unfolding tally_of
tallies_whole edition [] = record { sixteen = refl; blocks = refl; whole = fresh_whole }
tallies_whole edition (e ∷ es) =
    let one = one_block edition (read_packed e.block) in
    let rest = tallies_whole edition es in
    let sixteen = one_sixteen edition (read_packed e.block) in
    record {
      sixteen = plus_sixteen one (tally_of edition es) sixteen rest.sixteen;
      blocks = omega (arith, one_is_one edition (read_packed e.block));
      whole = plus_whole one (tally_of edition es) sixteen rest.sixteen (one_whole edition e.block (read_packed e.block) refl) rest.whole;
    }

pub tallies_add : TalliesAdd
unfolding tally_of
tallies_add edition [] fs = sym (fresh_plus (tally_of edition fs) (tallies_whole edition fs).sixteen)
tallies_add edition (e ∷ es) fs =
    let one = one_block edition (read_packed e.block) in
    ap (plus one) (tallies_add edition es fs) ∙ sym (plus_assoc one (tally_of edition es) (tally_of edition fs))
