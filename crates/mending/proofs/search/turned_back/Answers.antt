-- `turned_back` meets its contract. The loop's invariant: turned forth again the rest gives what was left, and nothing that fits in six
-- places gives it with fewer places behind.
-- Assumes nothing.
use borrow.Author.Count.{below_more}
use mathlib.Core.Path.{◌≡◌, refl}
use Prim.Native.Nat.{◌≤◌}
use native.Mathlib.Omega.{arith}
use Rattle.block.specs.Division.{remainder_from}
use Rattle.mending.proofs.Backwards.{filled, further, unfit}
use Rattle.mending.proofs.search.turned_back.Goals as goal

pub loop-behind-init : goal.loop-behind-init
unfolding remainder_from
loop-behind-init c = (refl, c.requires, λ h. absurd (omega arith), λ m h. absurd (omega arith))

pub returns-then-rest-lt64 : goal.returns-then-rest-lt64
returns-then-rest-lt64 c =
    let i = c.loop-behind.invariant in
    record { forth = i.0; small = i.1; inside = omega arith; filled = i.2; earlier = i.3; last = λ h. absurd (omega arith) }

pub loop-behind-preserved : goal.loop-behind-preserved
loop-behind-preserved c =
    let at = c.loop-behind in
    let left = c.args.left in
    let turned = c.turn_back-rest in
    let wide : 64 ≤ at.rest = omega arith in (
      further at.behind at.rest turned.result left turned.ensures.0 at.invariant.0,
      turned.ensures.1,
      λ h. filled at.rest turned.result turned.ensures.0 wide,
      below_more _ _ at.invariant.3 (unfit at.behind at.rest left at.invariant.1 at.invariant.0 wide),
    )

pub returns : goal.returns
returns c =
    let at = c.loop-behind in
    let i = at.invariant in
    let e : at.behind ≡ 44 = omega arith in
    rw (← e) (record { forth = i.0; small = i.1; inside = omega arith; filled = i.2; earlier = i.3; last = λ h. e })
