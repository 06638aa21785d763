-- `feed_all` meets its contract: each turn of the loop is a stretch, and what is left goes on behind it.
-- Assumes nothing.
use borrow.Author.Rules.{rules}
use mathlib.Core.Path.{◌≡◌, refl, sym, ap, ◌∙◌}
use native.Mathlib.Omega.{arith}
use borrow.Author.Tests.{eqb-true, eqb-false}
use Rattle.std.proofs.lemmas.List.{nil_from_length}
use Rattle.locking.specs.Modes.{no_blocks}
use Rattle.receiver.specs.Runs.{counts_of}
use lib.ListN.{length, drop, length-drop}
use Rattle.block.proofs.Strings.{rest_whole}
use Rattle.receiver.specs.declared.Counts.{Counts}
use Rattle.watch.specs.Watches.{remembered, watched_from}
use Rattle.watch.proofs.Turns.{behind, nothing_before, behind_both, at_the_end, few_wait, turn_proper, turn_fed, turn_balance, turn_waiting, turn_on, turn_some, turn_ends}
use Rattle.watch.proofs.feed_all.Goals as goal

pub loop-rest-init : goal.loop-rest-init
loop-rest-init c =
    let zero : c.default.result ≡ counts_of 0 no_blocks 0 0 = search rules in
    rw zero
    record {
      proper = c.requires.0;
      few = c.requires.1;
      fed = refl;
      sound = refl;
      waiting = refl;
      made = omega arith;
      whole = nothing_before c.args.start.state.waiting _;
    }

pub together-counts-requires : goal.together-counts-requires
together-counts-requires c =
    let inv = c.loop-rest.invariant in
    let d = c.run_until-stretch.ensures in
    let more = turn_balance c.args.edition c.loop-rest.watch inv.proper c.loop-rest.rest.now inv.few _ d in
    let fed = turn_fed c.args.edition c.loop-rest.watch inv.proper c.loop-rest.rest.now inv.few _ d in
    let waited = few_wait c.args.edition c.args.start c.requires.0 in (
      omega (arith, more, fed, waited, inv.made, c.requires.1),
      omega (arith, more, fed, waited, inv.made, c.requires.1),
      omega (arith, more, fed, waited, inv.made, c.requires.1),
    )

pub remember-watch-requires : goal.remember-watch-requires
remember-watch-requires c =
    let inv = c.loop-rest.invariant in
    let fed = turn_fed c.args.edition c.loop-rest.watch inv.proper c.loop-rest.rest.now inv.few _ c.run_until-stretch.ensures in
    omega (arith, fed, inv.fed, c.requires.2)

pub returns-then-counts-ne0 : goal.returns-then-counts-ne0
returns-then-counts-ne0 c =
    let lp = c.loop-rest in
    let ends = turn_ends c.args.edition lp.watch lp.invariant.proper lp.rest.now lp.invariant.few _ c.run_until-stretch.ensures
    (λ z. c.if-counts-ne0.true (ap (λ (c : Counts). c.refusal) c.together-counts.ensures ∙ z)) in
    rw (c.remember-watch.ensures, c.together-counts.ensures) (sym (ap (behind lp.counts) ends) ∙ lp.invariant.whole)

pub slice_bounds-rest-start : goal.slice_bounds-rest-start
slice_bounds-rest-start c =
    let inv = c.loop-rest.invariant in
    let fed = turn_fed c.args.edition c.loop-rest.watch inv.proper c.loop-rest.rest.now inv.few _ c.run_until-stretch.ensures in
    omega (arith, fed)

pub slice_bounds-rest-count : goal.slice_bounds-rest-count
slice_bounds-rest-count c =
    let inv = c.loop-rest.invariant in
    let fed = turn_fed c.args.edition c.loop-rest.watch inv.proper c.loop-rest.rest.now inv.few _ c.run_until-stretch.ensures in
    omega (arith, fed)

pub loop-rest-smaller : goal.loop-rest-smaller
loop-rest-smaller c =
    let inv = c.loop-rest.invariant in
    let rest = c.loop-rest.rest.now in
    let sound = sym (ap (λ (c : Counts). c.refusal) c.together-counts.ensures) ∙ c.if-counts-ne0.false in
    let test = eqb-false (length rest) 0 (sym c.is_empty.ensures ∙ c.loop-rest-test.true) in
    let some = turn_some c.args.edition c.loop-rest.watch inv.proper rest inv.few _ c.run_until-stretch.ensures sound (omega (arith, test)) in
    let fed = turn_fed c.args.edition c.loop-rest.watch inv.proper rest inv.few _ c.run_until-stretch.ensures in
    rw (rest_whole rest c.run_until-stretch.result.fed) (omega (arith, some, fed, length-drop c.run_until-stretch.result.fed rest))

pub loop-rest-preserved : goal.loop-rest-preserved
unfolding remembered
loop-rest-preserved c =
    let edition = c.args.edition in
    let w = c.loop-rest.watch in
    let counts = c.loop-rest.counts in
    let rest = c.loop-rest.rest.now in
    let inv = c.loop-rest.invariant in
    let r = c.run_until-stretch.result in
    let d = c.run_until-stretch.ensures in
    let sound = sym (ap (λ (c : Counts). c.refusal) c.together-counts.ensures) ∙ c.if-counts-ne0.false in
    let fed = turn_fed edition w inv.proper rest inv.few r d in
    let less = length-drop r.fed rest in
    rw (rest_whole rest r.fed, c.remember-watch.ensures, c.together-counts.ensures)
    record {
      proper = turn_proper edition w inv.proper rest inv.few r d;
      few = omega (arith, inv.few, less);
      fed = omega (arith, inv.fed, fed, less);
      sound = sound;
      waiting = turn_waiting edition w inv.proper rest inv.few r d;
      made = omega (arith, inv.made, fed, less, turn_balance edition w inv.proper rest inv.few r d);
      whole = sym (behind_both counts r.ran.counts (watched_from edition (remembered w r.ran.state r.fed) (drop r.fed rest)))
          ∙ sym (ap (behind counts) (turn_on edition w inv.proper rest inv.few r d sound)) ∙ inv.whole;
    }

pub returns : goal.returns
returns c =
    let lp = c.loop-rest in
    let inv = lp.invariant in
    let none = nil_from_length lp.rest.now (eqb-true (length lp.rest.now) 0 (sym c.is_empty.ensures ∙ c.loop-rest-test.false)) in
    sym (at_the_end c.args.edition lp.watch lp.counts inv.proper inv.sound inv.waiting) ∙ rw none at inv.whole
