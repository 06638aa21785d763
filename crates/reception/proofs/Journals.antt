-- What comes of joining two reports, and of adding a journal to one by what the journal says.
-- Assumes nothing.
use Rattle.std.proofs.Common.{◌≡◌, ℕ, ◌+◌, ◌^◌, ◌<◌, ◌≤◌, true, false, List, drop, Ok, Err, ◌∙◌, arith, le-leb}
use borrow.Author.Tests.{lt-leb}
use Rattle.refusal.specs.declared.Refusal.{Refusal}
use Rattle.refusal.specs.declared.Refusal.TheVariants.{Improper, TooManyBlocks}
use Rattle.record.specs.declared.Edition.{Edition}
use Rattle.journal.specs.Trailer.{entries_there, wanted_of}
use Rattle.journal.specs.declared.Wanted.{Wanted}
use Rattle.journal.proofs.Pointing.{refused_says, wanted_says}
use Rattle.journal.proofs.Sixteens.{length_entries}
use Rattle.reception.specs.Adding.{add_of, join_of}
use Rattle.reception.specs.Reports.{is_proper, plus}
use Rattle.reception.specs.Tally.{tally_of}
use Rattle.reception.specs.declared.Report.{Report}
use Rattle.reception.proofs.Tallies.{tallies_whole}

-- ---- two reports

module _ (r other : Report) where
  pub first_improper : is_proper r ≡ false → join_of r other ≡ Err Improper
  unfolding join_of
  first_improper e = rw e

  module _ (proper : is_proper r ≡ true) where
    pub second_improper : is_proper other ≡ false → join_of r other ≡ Err Improper
    unfolding join_of
    second_improper e = rw (proper, e)

    pub too_many_together : is_proper other ≡ true → 2 ^ 32 < r.blocks + other.blocks → join_of r other ≡ Err TooManyBlocks
    unfolding join_of
    too_many_together e h = rw (proper, e, lt-leb (r.blocks + other.blocks) (2 ^ 32) h)

    pub come_together : is_proper other ≡ true → r.blocks + other.blocks ≤ 2 ^ 32 → join_of r other ≡ Ok (plus r other)
    unfolding join_of
    come_together e h = rw (proper, e, le-leb (r.blocks + other.blocks) (2 ^ 32) h)

-- ---- a report and a journal

pub improper : (edition : Edition) (r : Report) (journal : List ℕ) → is_proper r ≡ false → add_of edition r journal ≡ Err Improper
unfolding add_of
improper edition r journal e = rw e

module _ (edition : Edition) (r : Report) (proper : is_proper r ≡ true) (journal : List ℕ) where
  module _ (w : Wanted) (wanted : wanted_of journal ≡ Ok w) where
    abbrev more : Report
    more = tally_of edition (entries_there journal w)

    many : more.blocks ≡ w.count
    many = (tallies_whole edition (entries_there journal w)).blocks ∙ length_entries w.count (drop w.first journal)

    pub too_many : 2 ^ 32 < r.blocks + w.count → add_of edition r journal ≡ Err TooManyBlocks
    unfolding add_of
    too_many h = rw (proper, wanted_says journal w wanted, lt-leb (r.blocks + more.blocks) (2 ^ 32) (omega (arith, many)))

    pub comes_to : r.blocks + w.count ≤ 2 ^ 32 → add_of edition r journal ≡ Ok (plus r (tally_of edition (entries_there journal w)))
    unfolding add_of
    comes_to h = rw (proper, wanted_says journal w wanted, le-leb (r.blocks + more.blocks) (2 ^ 32) (omega (arith, many)))

  pub says_nothing : {why : Refusal} → wanted_of journal ≡ Err why → add_of edition r journal ≡ Err why
  unfolding add_of
  says_nothing e = rw (proper, refused_says journal e)
