-- `checks` meets its contract: the numbers of all places are right by one computed test, and what the bits ask for adds up.
-- Assumes nothing.
use Rattle.std.proofs.Common.{◌≡◌, ℕ, ◌%◌, ◌^◌, arith, subst}
use Rattle.symbols.specs.Code.{Checked}
use Rattle.symbols.specs.declared.TheConstants.{ASKED}
use Rattle.symbols.proofs.Linear.{all_asked, asked, checked_zero, bit_set, bit_clear, checked_low}
use Rattle.symbols.proofs.checks.Goals as goal
use Rattle.symbols.proofs.checks.Goals.{then-symbols-place-eq1, else-symbols-place-eq1}

pub loop-place-init : goal.loop-place-init
loop-place-init c = let e : c.args.symbols % 1 ≡ 0 = omega arith in rw e checked_zero

pub loop-place-preserved : goal.loop-place-preserved
unfolding all_asked
loop-place-preserved c =
    let n = c.args.symbols in
    let l = c.loop-place in
    elim c.if-symbols-place-eq1.branch [
      | then-symbols-place-eq1 w ↦ rw w.sum-is (bit_set n l.place l.sum l.invariant _ (asked ASKED tt l.place (omega arith)) w.if-symbols-place-eq1.true)
      | else-symbols-place-eq1 w ↦ rw w.sum-is (bit_clear n l.place l.sum l.invariant w.if-symbols-place-eq1.false)
    ]

pub returns : goal.returns
returns c =
    let n = c.args.symbols in
    let e : c.loop-place.place ≡ 36 = omega arith in
    checked_low n _ (subst (λ (k : ℕ). Checked (n % 2 ^ k) c.loop-place.sum) e c.loop-place.invariant)
