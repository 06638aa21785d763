-- `add_up` meets its contract: what is left at the end is nothing exactly where all codes were as many as the good ones.
-- Assumes nothing.
use Rattle.std.proofs.Common.{◌≡◌, ℕ, zero, suc, ◌+◌, eqb, length, sym, ◌∙◌, add-zero, arith, eq-eqb, ne_eqb}
use lib.Seq.{drop-length}
use Rattle.reception.specs.Reports.{total}
use Rattle.reception.proofs.Totals.{total_from}
use Rattle.reception.proofs.add_up.Goals as goal

-- nothing is left exactly where all of them were as many
none_left : (left all good : ℕ) → all + left ≡ good → eqb left 0 ≡ eqb all good
none_left zero all good h = sym (eq-eqb all good (omega arith))
none_left (suc left) all good h = ne_eqb (suc left) 0 (λ e. omega arith) ∙ sym (ne_eqb all good (λ e. omega arith))

pub returns-then-left-code : goal.returns-then-left-code
returns-then-left-code c =
    let codes = c.args.codes.now in
    sym (ne_eqb (total codes) c.args.good (λ e. omega (arith, total_from codes c.loop-code.code-index (omega arith))))

pub loop-code-preserved : goal.loop-code-preserved
loop-code-preserved c = omega (arith, total_from c.args.codes.now c.loop-code.code-index (omega arith))

pub returns : goal.returns
returns c =
    let codes = c.args.codes.now in
    let all : c.loop-code.code-index ≡ length codes = omega arith in
    none_left c.loop-code.left (total codes) c.args.good (c.loop-code.invariant ∙ rw (all, drop-length codes) (add-zero _))
