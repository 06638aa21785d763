-- Counting entry by entry: the totals so far and the tally of the entries still to come make the whole at every step.
-- Assumes nothing.
use Rattle.std.proofs.Common.{◌≡◌, ℕ, suc, ◌+◌, ◌/◌, ◌^◌, ◌<◌, ◌≤◌, List, [], ◌∷◌, length, get_or, take, drop, set, Ok, Err, refl, sym, ap, ◌∙◌, add-zero, add-one, drop-cons, drop_of_length-le, length-take, arith}
use Rattle.big_endian.specs.Bytes.{Told}
use Rattle.big_endian.proofs.Bytes.{whole}
use Rattle.block.specs.Packed.{read_packed}
use Rattle.block.specs.declared.Refused.{Refused}
use Rattle.record.specs.declared.Edition.{Edition}
use Rattle.journal.specs.Entries.{entry_of}
use Rattle.journal.specs.Salvage.{whole_entries}
use Rattle.journal.specs.declared.Entry.{Entry}
use Rattle.journal.proofs.Sixteens.{length_entries}
use Rattle.reception.specs.Laws.{Sixteen, Sound}
use Rattle.reception.specs.Reports.{plus}
use Rattle.reception.specs.Tally.{one_block, one_filler, tally_of}
use Rattle.reception.specs.declared.Report.{Report}
use Rattle.reception.proofs.Blocks.{one_is_one, one_sixteen, one_whole}
use Rattle.reception.proofs.Sums.{plus_assoc, plus_fresh}
use Rattle.reception.proofs.Tallies.{plus_proper}
use Rattle.reception.proofs.Totals.{adds_one, adds_zeros}

-- ---- one block

module _ (edition : Edition) (r : Report) (sixteen : Sixteen r) where
  pub good_counted : (code word : ℕ) {filler : ℕ} → filler ≡ one_filler edition code word
      → ◌≡◌ {A = Report} (record { blocks = r.blocks + 1; good = r.good + 1; fillers = r.fillers + filler; codes = set r.codes code (get_or r.codes code 0 + 1) })
      (plus r (one_block edition (Ok (record { code = code; word = word }))))
  good_counted code word f = rw (f, adds_one r.codes 16 code 1 sixteen)

  pub bad_counted : (why : Refused) → ◌≡◌ {A = Report} (record { blocks = r.blocks + 1; good = r.good; fillers = r.fillers; codes = r.codes }) (plus r (one_block edition (Err why)))
  bad_counted why = rw (add-zero r.good, add-zero r.fillers, adds_zeros r.codes 16 sixteen)

-- ---- along the entries

module _ (edition : Edition) (s : List ℕ) (r : Report) where
  abbrev pub all : Report
  all = plus r (tally_of edition (whole_entries s))

  -- so the totals stand when so many entries were seen
  pub record Counts (now : Report) (seen : ℕ) : Type 0 where
    pub makes : plus now (tally_of edition (drop seen (whole_entries s))) ≡ all
    pub sound : Sound now
    pub many : now.blocks ≡ r.blocks + seen

  pub none_counted : Sound r → Counts r 0
  none_counted p = record { makes = refl; sound = p; many = sym (add-zero r.blocks) }

  many_entries : length (whole_entries s) ≡ length s / 16
  many_entries = length_entries (length s / 16) s

  module _ (now : Report) (seen : ℕ) (so : Counts now seen) where
    pub one_counted : r.blocks + length s / 16 ≤ 2 ^ 32 → seen < length s / 16 → (e : Entry) → get_or (whole_entries s) seen e ≡ e
        → Counts (plus now (one_block edition (read_packed e.block))) (seen + 1)
    unfolding tally_of
    one_counted few h e is =
        let es = whole_entries s in
        let one = one_block edition (read_packed e.block) in
        let within : seen < length es = omega (arith, many_entries) in
        let next : drop seen es ≡ e ∷ drop (seen + 1) es = rw (add-one, drop-cons es seen e within) (ap (λ (x : Entry). x ∷ drop (suc seen) es) is) in
        record {
          makes = plus_assoc now one (tally_of edition (drop (seen + 1) es)) ∙ sym (ap (λ (es : List Entry). plus now (tally_of edition es)) next) ∙ so.makes;
          sound = plus_proper now one so.sound (one_sixteen edition (read_packed e.block)) (one_whole edition e.block (read_packed e.block) refl)
              (omega (arith, so.many, one_is_one edition (read_packed e.block)));
          many = omega (arith, so.many, one_is_one edition (read_packed e.block));
        }

    pub all_counted : length s / 16 ≤ seen → now ≡ all
    unfolding tally_of
    all_counted end =
        let none : drop seen (whole_entries s) ≡ [] = drop_of_length-le (whole_entries s) (omega (arith, many_entries)) in
        sym (plus_fresh now so.sound.1) ∙ sym (ap (λ (es : List Entry). plus now (tally_of edition es)) none) ∙ so.makes

-- the block's number in the second half of sixteen bytes
pub block_read : (chunk : List ℕ) {n : ℕ} → Told (take 8 (drop 8 chunk)) n → n ≡ (entry_of chunk).block
unfolding entry_of
block_read chunk told = whole told (simp length-take (omega arith))
