-- `check_entries` meets its contract. The loop's invariant: what was found so far, with the entries that are left, is the answer.
-- Assumes nothing.
use Rattle.std.proofs.Common.{◌≡◌, ◌/◌, length, sym, arith}
use Rattle.journal.specs.Order.{least_after}
use Rattle.journal.specs.Salvage.{whole_entries}
use Rattle.journal.proofs.Judging.{all_left, none_left, one_more, one_faulty}
use Rattle.journal.proofs.Sixteens.{entry_in_chunks, length_entries}
use Rattle.journal.proofs.entries.check_entries.Goals as goal

pub loop-seen-init : goal.loop-seen-init
loop-seen-init c = all_left (whole_entries c.args.bytes.now)

pub returns-in-Err : goal.returns-in-Err
returns-in-Err c =
    let s = c.args.bytes.now in
    let seen = c.loop-seen.seen in
    let n : length (whole_entries s) ≡ length s / 16 = length_entries (length s / 16) s in
    let chunks = c.as_chunks.ensures in
    one_faulty (whole_entries s) seen (least_after c.loop-seen.last) (omega (arith, chunks.front_len)) c.read-entry.result
    (entry_in_chunks s seen c.read-entry.result chunks.front (omega (arith, chunks.front_len)) c.read-entry.ensures) c.loop-seen.invariant (sym c.in-Err.ensures)

pub loop-seen-preserved : goal.loop-seen-preserved
loop-seen-preserved c =
    let s = c.args.bytes.now in
    let seen = c.loop-seen.seen in
    let n : length (whole_entries s) ≡ length s / 16 = length_entries (length s / 16) s in
    let chunks = c.as_chunks.ensures in
    one_more (whole_entries s) seen (least_after c.loop-seen.last) (omega (arith, chunks.front_len)) c.read-entry.result
    (entry_in_chunks s seen c.read-entry.result chunks.front (omega (arith, chunks.front_len)) c.read-entry.ensures) c.loop-seen.invariant (sym c.in_default.ensures)

pub returns : goal.returns
returns c =
    let s = c.args.bytes.now in
    let lp = c.loop-seen in
    let n : length (whole_entries s) ≡ length s / 16 = length_entries (length s / 16) s in
    let size = c.as_chunks.ensures.front_len in
    let all : length c.as_chunks.result.0.now ≡ lp.seen = omega arith in
    rw all (none_left (whole_entries s) lp.seen (least_after lp.last) (omega (arith, size)) lp.invariant)
