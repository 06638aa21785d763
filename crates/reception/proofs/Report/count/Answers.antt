-- `count` meets its contract: what the block reads as decides what it counts for.
-- Assumes nothing.
use Rattle.std.proofs.Common.{rules, ◌≡◌, length, sym, ap, ◌∙◌, arith}
use Rattle.reception.specs.Tally.{one_block}
use Rattle.reception.specs.Reports.{plus}
use Rattle.reception.proofs.Blocks.{code_lt, filler_is, filler_le}
use Rattle.reception.proofs.Counting.{good_counted, bad_counted}
use Rattle.reception.proofs.Parts.{small}
use Rattle.reception.proofs.Totals.{place_le}
use Rattle.reception.proofs.Report.count.Goals as goal

pub overflow_add-self-in-Ok : goal.overflow_add-self-in-Ok
overflow_add-self-in-Ok c = omega (arith, small c.args.self.now c.requires.0)

pub overflow_add-self-in-Ok-2 : goal.overflow_add-self-in-Ok-2
overflow_add-self-in-Ok-2 c =
    let body = c.in-Ok.body in
    let is = filler_is c.args.edition body.code body.word c.carries_nothing.ensures c.from-filler.ensures in
    omega (arith, is, filler_le c.args.edition body.code body.word, small c.args.self.now c.requires.0)

pub bounds-self-body : goal.bounds-self-body
bounds-self-body c = code_lt c.args.block c.in-Ok.body.code c.in-Ok.body.word (sym c.in-Ok.ensures)

pub overflow_add-self-in-Ok-3 : goal.overflow_add-self-in-Ok-3
overflow_add-self-in-Ok-3 c =
    omega (arith, small c.args.self.now c.requires.0, place_le c.args.self.now.codes c.in-Ok.body.code)

pub bounds-self-body-in-Ok : goal.bounds-self-body-in-Ok
bounds-self-body-in-Ok c = code_lt c.args.block c.in-Ok.body.code c.in-Ok.body.word (sym c.in-Ok.ensures)

pub returns-in-Ok : goal.returns-in-Ok
returns-in-Ok c =
    let self = c.args.self.now in
    let sixteen : length self.codes ≡ 16 = search rules in
    let body = c.in-Ok.body in
    good_counted c.args.edition self sixteen body.code body.word (filler_is c.args.edition body.code body.word c.carries_nothing.ensures c.from-filler.ensures)
    ∙ ap (λ read. plus self (one_block c.args.edition read)) c.in-Ok.ensures

pub returns-in_default : goal.returns-in_default
returns-in_default c =
    let self = c.args.self.now in
    let sixteen : length self.codes ≡ 16 = search rules in
    bad_counted c.args.edition self sixteen c.in_default.field-0 ∙ ap (λ read. plus self (one_block c.args.edition read)) c.in_default.ensures
