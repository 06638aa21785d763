-- `feed_all` meets its contract: each turn feeds at least one bit.
-- Assumes nothing.
use Rattle.std.proofs.Common.{rules, ◌≡◌, [], subst, ℕ, ◌-◌, ◌<◌, ◌∙◌, List, length, take, drop, ap, sym, arith, ◌≤◌, length-drop, drop_of_length-le}
use Rattle.block.specs.Bits.{Bits}
use Rattle.block.proofs.Strings.{bits_drop, rest_whole}
use Rattle.receive.specs.Totals.{kept_after}
use Rattle.receive.proofs.Hearing.{turn_fed, turn_proper, turn_kept}
use Rattle.receive.proofs.feed_all.Goals as goal

pub slice_bounds-rest-count : goal.slice_bounds-rest-count
slice_bounds-rest-count g c =
    let more : 0 < length c.loop-rest.rest.now = search rules in
    (turn_fed _ _ _ c.hear-heard.ensures more).1

pub slice_bounds-rest-start : goal.slice_bounds-rest-start
slice_bounds-rest-start g c =
    let more : 0 < length c.loop-rest.rest.now = search rules in
    let fed = turn_fed _ _ _ c.hear-heard.ensures more in search rules

pub loop-rest-smaller : goal.loop-rest-smaller
loop-rest-smaller g c =
    let r = c.loop-rest.rest.now in
    let more : 0 < length c.loop-rest.rest.now = search rules in
    let fed = turn_fed _ _ _ c.hear-heard.ensures more in
    let e : take (length r - c.hear-heard.result.fed) (drop c.hear-heard.result.fed r) ≡ drop c.hear-heard.result.fed r = rest_whole r c.hear-heard.result.fed in
    omega (arith, ap length e, length-drop c.hear-heard.result.fed r)

pub loop-rest-preserved : goal.loop-rest-preserved
loop-rest-preserved g c =
    let r = c.loop-rest.rest.now in
    let n = c.hear-heard.result.fed in
    let e : take (length r - n) (drop n r) ≡ drop n r = rest_whole r n in
    record {
      proper = turn_proper _ _ _ c.hear-heard.ensures c.loop-rest.invariant.bits c.loop-rest.invariant.proper;
      bits = subst (λ (l : List ℕ). Bits l) (sym e) (bits_drop n r c.loop-rest.invariant.bits);
      few = omega (arith, ap length e, length-drop n r);
      whole = ap (kept_after c.hear-heard.result.kept) e ∙ turn_kept _ _ _ c.hear-heard.ensures ∙ c.loop-rest.invariant.whole;
    }

pub returns : goal.returns
unfolding kept_after
returns g c =
    let r = c.loop-rest.rest.now in
    let none : length r ≤ 0 = search rules in
    let e : r ≡ [] = drop_of_length-le r {i = 0} none in
    rw e at c.loop-rest.invariant.whole
