-- Adding a journal to a report, and joining two reports (02, No. 12); and which bytes can be counted into one. A refusal leaves the
-- report as it was.
-- Assumes nothing.
use Rattle.std.specs.Prelude.{true, ◌≡◌, cond, ◌&&◌, List, ℕ, ◌+◌, ◌/◌, ◌^◌, ◌≤◌, leb, length, Result, Ok, Err}
use Rattle.refusal.specs.declared.Refusal.{Refusal}
use Rattle.refusal.specs.declared.Refusal.TheVariants.{Improper, TooManyBlocks}
use Rattle.record.specs.declared.Edition.{Edition}
use Rattle.journal.specs.Trailer.{says_of}
use Rattle.journal.specs.declared.Entry.{Entry}
use Rattle.reception.specs.Reports.{is_proper, plus}
use Rattle.reception.specs.Tally.{tally_of}
use Rattle.reception.specs.declared.Report.{Report}

-- what is to come to a report, unless it would have more than 2^32 blocks: then 30
abbrev pub with_more : Report → Report → Result Report Refusal
with_more r more = cond (leb (r.blocks + more.blocks) (2 ^ 32)) (Ok (plus r more)) (Err TooManyBlocks)

-- what a journal says comes to the report: the journal's own refusals, 23, then 24 or 14, then 30
abbrev pub with_said : Edition → Report → Result (List Entry) Refusal → Result Report Refusal
with_said edition r (Ok es) = with_more r (tally_of edition es)
with_said edition r (Err why) = Err why

-- the report with a journal counted: 10 for a report that is not proper comes first
unfoldable pub add_of : Edition → Report → List ℕ → Result Report Refusal
add_of edition r journal = cond (is_proper r) (with_said edition r (says_of journal)) (Err Improper)

-- the totals of two reports: 10 for either, then 30
unfoldable pub join_of : Report → Report → Result Report Refusal
join_of r other = cond (is_proper r && is_proper other) (with_more r other) (Err Improper)

-- the answer, and the report as it is then
abbrev pub answered : Result Report Refusal → Result (Unit {0}) Refusal
answered (Ok after) = Ok tt
answered (Err why) = Err why

abbrev pub left_by : Report → Result Report Refusal → Report
left_by r (Ok after) = after
left_by r (Err why) = r

-- the whole entries in some bytes, sixteen bytes to an entry, can all come to a report: it is proper, and has at most 2^32 blocks then
abbrev pub HasRoom : Report → List ℕ → Type 0
HasRoom r bytes = (is_proper r ≡ true) × (r.blocks + length bytes / 16 ≤ 2 ^ 32)
