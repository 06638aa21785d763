-- `count_entries` meets its contract. The loop's invariant: the totals so far and the tally of the entries to come make the whole.
-- Assumes nothing.
use Rattle.std.proofs.Common.{rules, ◌≡◌, ◌/◌, ◌<◌, length, get_or, [], refl, arith}
use Rattle.journal.specs.Entries.{entry_of}
use Rattle.journal.proofs.Sixteens.{entry_in_chunks}
use Rattle.reception.proofs.Counting.{none_counted, one_counted, all_counted, block_read}
use Rattle.reception.proofs.Report.count_entries.Goals as goal

pub loop-entry-init : goal.loop-entry-init
loop-entry-init c =
    let self = c.args.self.now in
    let sixteen : length self.codes ≡ 16 = search rules in
    none_counted c.args.edition c.args.bytes.now self (c.requires.0, sixteen)

pub count-requires : goal.count-requires
count-requires c =
    let so = c.loop-entry.invariant in
    let chunks = c.as_chunks.ensures in
    (so.sound.0, omega (arith, so.many, chunks.front_len))

pub loop-entry-preserved : goal.loop-entry-preserved
loop-entry-preserved c =
    let a = c.args in
    let lp = c.loop-entry in
    let i = lp.entry-index in
    let all = c.as_chunks.ensures in
    let chunk = get_or c.as_chunks.result.0.now i [] in
    let e = entry_of chunk in
    let h : i < length a.bytes.now / 16 = omega (arith, all.front_len) in
    let read : c.number_of.result ≡ e.block = block_read chunk c.number_of.ensures in
    rw (c.count.ensures, read)
    (one_counted a.edition a.bytes.now a.self.now lp.self i lp.invariant c.requires.1 h e (entry_in_chunks a.bytes.now i e all.front h refl))

pub returns : goal.returns
returns c =
    let a = c.args in
    let lp = c.loop-entry in
    let chunks = c.as_chunks.ensures in
    all_counted a.edition a.bytes.now a.self.now lp.self lp.entry-index lp.invariant (omega (arith, chunks.front_len))
