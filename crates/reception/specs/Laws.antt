-- What holds of reception reports (02, No. 12): they add up in any order, proper ones stay proper, compaction
-- does not change them, and the share is a division.
-- Assumes nothing.
use Rattle.std.specs.Prelude.{true, ◌≡◌, ℕ, ◌+◌, ◌*◌, ◌<◌, ◌≤◌, length, get_or, take, Result, Ok, Err}
use mathlib.Core.List.{List, [], ◌∷◌, ◌++◌, Permᴰ}
use Rattle.refusal.specs.declared.Refusal.{Refusal}
use Rattle.record.specs.declared.Edition.{Edition}
use Rattle.journal.specs.Compaction.{compacted_of, journal_length}
use Rattle.journal.specs.Laws.{Bytes}
use Rattle.journal.specs.Trailer.{says_of}
use Rattle.journal.specs.declared.Entry.{Entry}
use Rattle.reception.specs.Reports.{fresh_report, is_proper, plus, total}
use Rattle.reception.specs.Tally.{tally_of}
use Rattle.reception.specs.Adding.{add_of, join_of}
use Rattle.reception.specs.Share.{per_thousand, share_of}
use Rattle.reception.specs.declared.Report.{Report}

-- ---- sums

-- a report has sixteen codes
abbrev pub Sixteen : Report → Type 0
Sixteen r = length r.codes ≡ 16

-- the sum of two reports is the same whichever comes first, of three whichever two are added first, and a fresh report adds nothing
pub record SumsAgree : Type 0 where
  pub either : (r s : Report) → plus r s ≡ plus s r
  pub any : (r s t : Report) → plus (plus r s) t ≡ plus r (plus s t)
  pub none : (r : Report) → Sixteen r → plus r fresh_report ≡ r

-- entries behind others count for what both count for
abbrev pub TalliesAdd : Type 0
TalliesAdd = (edition : Edition) (es fs : List Entry) → tally_of edition (es ++ fs) ≡ plus (tally_of edition es) (tally_of edition fs)

-- ---- what is proper stays so

-- the codes add up to the good ones, and no part is larger than the whole
pub record Whole (r : Report) : Type 0 where
  pub good : r.good ≤ r.blocks
  pub fillers : r.fillers ≤ get_or r.codes 0 0
  pub codes : total r.codes ≡ r.good

-- the tally of entries counts each of them once, and is whole
pub record Tallied (edition : Edition) (es : List Entry) : Type 0 where
  pub sixteen : Sixteen (tally_of edition es)
  pub blocks : (tally_of edition es).blocks ≡ length es
  pub whole : Whole (tally_of edition es)

abbrev pub TalliesWhole : Type 0
TalliesWhole = (edition : Edition) (es : List Entry) → Tallied edition es

-- a proper report, as the type's array has it
abbrev pub Sound : Report → Type 0
Sound r = (is_proper r ≡ true) × Sixteen r

-- a fresh report is proper, and what is counted leaves a proper one proper
pub record StaysProper : Type 0 where
  pub fresh : Sound fresh_report
  pub adding : (edition : Edition) (r : Report) (journal : List ℕ) (after : Report) → Sound r → add_of edition r journal ≡ Ok after → Sound after
  pub joining : (r other after : Report) → Sound r → Sound other → join_of r other ≡ Ok after → Sound after

-- ---- any order

-- what a journal says, counted; one that says nothing counts for nothing
abbrev pub tally_in : Edition → Result (List Entry) Refusal → Report
tally_in edition (Ok es) = tally_of edition es
tally_in edition (Err why) = fresh_report

-- and what journals say
unfoldable pub tally_of_all : Edition → List (List ℕ) → Report
tally_of_all edition [] = fresh_report
tally_of_all edition (j ∷ js) = plus (tally_in edition (says_of j)) (tally_of_all edition js)

-- a report put together from these journals, by adding journals and joining reports that were put together so
pub data Built (edition : Edition) : List (List ℕ) → Report → Type 0 where
  fresh : Built edition [] fresh_report
  added : {js : List (List ℕ)} {r after : Report} (j : List ℕ) → Built edition js r → add_of edition r j ≡ Ok after → Built edition (j ∷ js) after
  joined : {js ks : List (List ℕ)} {r s after : Report} → Built edition js r → Built edition ks s → join_of r s ≡ Ok after → Built edition (js ++ ks) after

-- however it was put together, it is the sum of what the journals say
abbrev pub BuiltIsSum : Type 0
BuiltIsSum = (edition : Edition) (js : List (List ℕ)) (r : Report) → Built edition js r → r ≡ tally_of_all edition js

-- so from the same journals, in whatever order, it is the same
abbrev pub AnyOrder : Type 0
AnyOrder =
    (edition : Edition) (js ks : List (List ℕ)) (r s : Report) → Permᴰ js ks → Built edition js r → Built edition ks s → r ≡ s

-- ---- compaction

-- what was compacted, cut at its new length, adds to a report what it added before
abbrev pub SameReport : Type 0
SameReport =
    (edition : Edition) (r : Report) (s : List ℕ) → Bytes s → (es : List Entry) → says_of s ≡ Ok es
    → add_of edition r (take (journal_length es) (compacted_of s)) ≡ add_of edition r s

-- ---- per thousand

-- a proper report with blocks gets the quotient and the remainder of 1000 times the good ones by the blocks
abbrev pub ShareDivides : Type 0
ShareDivides =
    (r : Report) (quotient remainder : ℕ) → is_proper r ≡ true → 0 < r.blocks → share_of r ≡ per_thousand quotient remainder
    → (quotient * r.blocks + remainder ≡ 1000 * r.good) × (remainder < r.blocks) × (quotient ≤ 1000)
