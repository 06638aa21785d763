-- `feed_all` meets its contract: a bit that waits, one that fills the window, one with which the run ends, one that is none, and the
-- end are the cases of `Turning`.
-- Assumes nothing.
use borrow.Author.Rules.{rules}
use borrow.Author.Tests.{not-true, not-false}
use mathlib.Core.Path.{◌≡◌, refl, sym, ap, ◌∙◌}
use Prim.Native.Nat.{ℕ, ◌+◌, ◌-◌, ◌*◌, ◌≤◌, ◌<◌}
use native.Mathlib.Omega.{arith}
use lib.ListN.{length, get_or, drop_of_length-le}
use Rattle.block.proofs.Strings.{next, thirteen}
use Rattle.locking.specs.declared.Blocks.{Blocks}
use Rattle.locking.specs.declared.Judged.{Judged}
use Rattle.locking.specs.Modes.{no_blocks, passed_over, judged_by}
use Rattle.locking.proofs.Choices.{counts_one}
use Rattle.locking.proofs.StaysProper.{judged_proper}
use Rattle.receiver.specs.declared.windows.Window.{Window}
use Rattle.receiver.specs.Runs.{plus}
use Rattle.receiver.specs.Changes.{runs_on}
use Rattle.receiver.proofs.Balance.{MadeUp}
use Rattle.receiver.proofs.First.{fifty}
use Rattle.receiver.proofs.StaysProper.{bits_and_lock}
use Rattle.receiver.proofs.Layouts.{proper_small, proper_unpacked}
use Rattle.receiver.proofs.Running.{on_done, on_stops}
use Rattle.receiver.proofs.Turning.{entered, few, put_back, reads, is_over, not_over, goes_same, more_wait, goes_over, goes_on, ends_here}
use Rattle.receiver.proofs.feed_all.Goals as goal
use Rattle.receiver.proofs.feed_all.Goals.{then-window-eq50+then-is_passed_over, else-window-eq50, then-window-eq50+else-is_passed_over+else-ends}

abbrev waiting : Window → ℕ
waiting w = w.waiting

abbrev number : Window → ℕ
number w = w.bits

-- the bits passed over are what is left of them
passed_is : (n : ℕ) (blocks : Blocks) (passed w : ℕ) → MadeUp n blocks passed w → n - 50 * (blocks.good + blocks.bad) - w ≡ passed
passed_is n blocks passed w made = omega arith

pub of-window-requires : goal.of-window-requires
of-window-requires c =
    let p = c.args.state in
    let proper = c.requires.0 in
    (few c.args.edition p proper, proper_small c.args.edition p proper)

pub loop-i-init : goal.loop-i-init
loop-i-init c =
    let p = c.args.state in
    let w = c.of-window.ensures in
    let none : c.default-blocks.result ≡ no_blocks = search rules in
    record {
      room = omega (arith, w.0, few c.args.edition p c.requires.0);
      proper = rw c.lock_in-lock.ensures (bits_and_lock c.args.edition _ (proper_unpacked c.args.edition p c.requires.0).proper).1;
      limit = omega (arith, w.0, few c.args.edition p c.requires.0, c.requires.1);
      on = (0, rw none (omega arith), rw none);
    }

pub returns-then-bit-gt1 : goal.returns-then-bit-gt1
returns-then-bit-gt1 c =
    let bits = c.args.bits.now in
    let until = c.args.until in
    let w = c.of-window.ensures in
    let whole = rw (next bits c.loop-i.i c.loop-i-test.true) at c.loop-i.invariant.on.2 in
    let no-bit : 2 ≤ get_or bits c.loop-i.i 0 = omega (arith, c.if-bit-gt1.true) in
    rw (c.counted.ensures, c.kept.ensures, passed_is _ c.loop-i.blocks _ _ c.loop-i.invariant.on.1, c.from-why.ensures, put_back c.loop-i.lock _ _ c.loop-i.window.few)
    (sym (on_stops _ until c.loop-i.i _ _ _ _ _ no-bit) ∙ whole ∙ entered c.args.edition c.args.state c.requires.0 c.lock_in-lock.ensures w.0 w.1 until bits)

pub overflow_cast-left : goal.overflow_cast-left
overflow_cast-left c = omega (arith, thirteen 49 _ c.behind_first-left.ensures)

pub more-blocks-requires : goal.more-blocks-requires
more-blocks-requires c =
    let inv = c.loop-i.invariant in
    let one = counts_one _ _ _ c.judge-judged.ensures in
    (omega (arith, one, inv.limit, inv.on.1), omega (arith, one, inv.limit, inv.on.1))

pub counted-requires-then-ends : goal.counted-requires-then-ends
counted-requires-then-ends c =
    let inv = c.loop-i.invariant in (
      rw (c.kept-then-ends.ensures, c.more-blocks.ensures) (omega (arith, c.empty-window.ensures.0, counts_one _ _ _ c.judge-judged.ensures, inv.on.1, c.join-window.ensures.0, c.if-window-eq50.true)),
      omega (arith, c.loop-i-test.true, inv.limit),
    )

pub returns-then-ends : goal.returns-then-ends
returns-then-ends c =
    let bits = c.args.bits.now in
    let until = c.args.until in
    let window = c.of-window.ensures in
    let l = c.loop-i.lock in
    let v = c.join-window.result in
    let grown = c.join-window.ensures in
    let f = fifty v c.if-window-eq50.true in
    let b : get_or bits c.loop-i.i 0 < 2 = omega (arith, c.if-bit-gt1.false) in
    let j = c.judge-judged.result in
    let e = c.judge-judged.ensures ∙ ap (judged_by c.args.edition l) (c.read_by.ensures ∙ reads v.bits _ f.0 c.behind_first-left.ensures) in
    let none = ap (λ (j : Judged). j.passed) e ∙ not_over _ l _ _ c.is_passed_over.ensures c.if-is_passed_over.false in
    let whole = rw (next bits c.loop-i.i c.loop-i-test.true) at c.loop-i.invariant.on.2 in
    let change = not-true (runs_on until l j.lock) (sym c.ends.ensures ∙ c.if-ends.true) in
    let nothing = c.empty-window.ensures in
    let made : MadeUp (c.of-window.result.waiting + (c.loop-i.i + 1)) (plus c.loop-i.blocks j.blocks) c.loop-i.invariant.on.0 c.empty-window.result.waiting =
    omega (arith, c.loop-i.invariant.on.1, grown.0, c.if-window-eq50.true, counts_one _ _ _ c.judge-judged.ensures, none, nothing.0) in
    rw (c.counted-then-ends.ensures, c.kept-then-ends.ensures, c.more-blocks.ensures, passed_is _ (plus c.loop-i.blocks j.blocks) _ _ made, put_back j.lock _ _ c.empty-window.result.few, nothing.0, nothing.1)
    (sym (ends_here _ until c.loop-i.i _ _ _ _ b l _ _ v.bits grown.1 (sym grown.0 ∙ c.if-window-eq50.true) j e none change)
    ∙ whole ∙ entered c.args.edition c.args.state c.requires.0 c.lock_in-lock.ensures window.0 window.1 until bits)

pub loop-i-preserved : goal.loop-i-preserved
loop-i-preserved c =
    let bits = c.args.bits.now in
    let until = c.args.until in
    let inv = c.loop-i.invariant in
    let l = c.loop-i.lock in
    let v = c.join-window.result in
    let grown = c.join-window.ensures in
    let b : get_or bits c.loop-i.i 0 < 2 = omega (arith, c.if-bit-gt1.false) in
    let test = c.loop-i-test.true in
    let whole = rw (next bits c.loop-i.i test) at inv.on.2 in
    elim c.if-window-eq50.branch [
      | then-window-eq50+then-is_passed_over o ↦
          let moved = o.move_on-window.ensures in
          record {
            room = omega (arith, ap waiting o.window-is, moved.0);
            proper = rw o.lock-is inv.proper;
            limit = inv.limit;
            on = (
              inv.on.0 + 1,
              rw o.blocks-is (omega (arith, inv.on.1, ap waiting o.window-is, moved.0, grown.0, o.if-window-eq50.true)),
              goes_same _ until _ _ _ o.lock-is (ap waiting o.window-is ∙ moved.0) (ap number o.window-is ∙ moved.1) o.blocks-is
                  ∙ sym (goes_over _ until c.loop-i.i _ _ _ _ b l _ _ v.bits grown.1 (sym grown.0 ∙ o.if-window-eq50.true) (passed_over l) (is_over _ l _ _ o.is_passed_over.ensures inv.proper o.if-is_passed_over.true) refl) ∙ whole,
            );
          }
      | then-window-eq50+else-is_passed_over+else-ends u ↦
          let full = u.if-window-eq50.true in
          let f = fifty v full in
          let j = u.judge-judged.result in
          let e = u.judge-judged.ensures ∙ ap (judged_by c.args.edition l) (u.read_by.ensures ∙ reads v.bits _ f.0 u.behind_first-left.ensures) in
          let none = ap (λ (j : Judged). j.passed) e ∙ not_over _ l _ _ u.is_passed_over.ensures u.if-is_passed_over.false in
          let on = not-false (runs_on until l j.lock) (sym u.ends.ensures ∙ u.if-ends.false) in
          let nothing = u.empty-window.ensures in
          let added = u.blocks-is ∙ u.more-blocks.ensures in
          record {
            room = omega (arith, ap waiting u.window-is, nothing.0);
            proper = rw (u.lock-is, e) (judged_proper _ l _ inv.proper);
            limit = inv.limit;
            on = (
              inv.on.0,
              rw added (omega (arith, inv.on.1, ap waiting u.window-is, nothing.0, grown.0, full, counts_one _ _ _ u.judge-judged.ensures, none)),
              goes_same _ until _ _ _ u.lock-is (ap waiting u.window-is ∙ nothing.0) (ap number u.window-is ∙ nothing.1) added
                  ∙ sym (goes_on _ until c.loop-i.i _ _ _ _ b l _ _ v.bits grown.1 (sym grown.0 ∙ full) j e none on) ∙ whole,
            );
          }
      | else-window-eq50 k ↦ record {
        room = omega (arith, ap waiting k.window-is, grown.0, k.if-window-eq50.false, inv.room);
        proper = rw k.lock-is inv.proper;
        limit = inv.limit;
        on = (
          inv.on.0,
          rw k.blocks-is (omega (arith, inv.on.1, ap waiting k.window-is, grown.0)),
          goes_same _ until _ _ _ k.lock-is (ap waiting k.window-is ∙ grown.0) (ap number k.window-is) k.blocks-is
              ∙ sym (more_wait _ until c.loop-i.i _ _ _ _ b l _ _ v.bits grown.1 (omega (arith, grown.0, k.if-window-eq50.false, inv.room))) ∙ whole,
        );
      }
    ]

pub returns : goal.returns
returns c =
    let bits = c.args.bits.now in
    let until = c.args.until in
    let window = c.of-window.ensures in
    let end : length bits ≡ c.loop-i.i = omega arith in
    let whole = rw (drop_of_length-le bits c.loop-i-test.false) at c.loop-i.invariant.on.2 in
    rw (c.counted-2.ensures, c.kept-2.ensures, end, passed_is _ c.loop-i.blocks _ _ c.loop-i.invariant.on.1, put_back c.loop-i.lock _ _ c.loop-i.window.few)
    (sym (on_done _ until c.loop-i.i _ _ _) ∙ whole ∙ entered c.args.edition c.args.state c.requires.0 c.lock_in-lock.ensures window.0 window.1 until bits)
