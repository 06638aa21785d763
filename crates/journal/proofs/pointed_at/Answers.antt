-- `pointed_at` meets its contract: each return is the answer of the tests that led there.
-- Assumes nothing.
use native.Mathlib.Omega.{arith}
use Rattle.journal.specs.Trailer.{offset_in, count_in}
use Rattle.journal.proofs.Pointing.{no_bytes, no_sixteens, no_entry, too_far, pointed}
use Rattle.journal.proofs.pointed_at.Goals as goal

pub returns-then-journal-eq0 : goal.returns-then-journal-eq0
returns-then-journal-eq0 c = no_bytes c.args.journal.now c.if-journal-eq0.true

pub returns-then-journal-ne0 : goal.returns-then-journal-ne0
returns-then-journal-ne0 c = no_sixteens c.args.journal.now (omega arith) c.if-journal-ne0.true

pub returns-then-offset-ne0 : goal.returns-then-offset-ne0
unfolding offset_in count_in
returns-then-offset-ne0 c =
    no_entry c.args.journal.now (omega arith) (omega arith) c.number_at-offset.ensures c.number_at-count.ensures c.if-offset-ne0.true

pub returns-then-end-offset : goal.returns-then-end-offset
unfolding offset_in count_in
returns-then-end-offset c =
    too_far c.args.journal.now (omega arith) (omega arith) c.number_at-offset.ensures c.number_at-count.ensures (omega arith) (omega arith)

pub returns-then-end-offset-2 : goal.returns-then-end-offset-2
unfolding offset_in count_in
returns-then-end-offset-2 c =
    too_far c.args.journal.now (omega arith) (omega arith) c.number_at-offset.ensures c.number_at-count.ensures (omega arith) (omega arith)

pub returns : goal.returns
unfolding offset_in count_in
returns c =
    pointed c.args.journal.now (omega arith) (omega arith) c.number_at-offset.ensures c.number_at-count.ensures (omega arith) (omega arith)
