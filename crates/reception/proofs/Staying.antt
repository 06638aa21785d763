-- What was counted is a sum of at most 2^32 blocks, so a proper report stays proper.
-- Assumes nothing.
use Rattle.std.proofs.Common.{◌≡◌, ℕ, ◌+◌, ◌^◌, ◌≤◌, Bool, true, false, cond, ◌&&◌, leb, List, Result, Ok, Err, refl, sym, subst, arith, leb-true}
use Rattle.refusal.specs.declared.Refusal.{Refusal}
use Rattle.refusal.specs.declared.Refusal.TheVariants.{Improper, TooManyBlocks}
use Rattle.record.specs.declared.Edition.{Edition}
use Rattle.journal.specs.Trailer.{says_of}
use Rattle.journal.specs.declared.Entry.{Entry}
use Rattle.reception.specs.Adding.{add_of, join_of, with_more, with_said}
use Rattle.reception.specs.Laws.{Sixteen, Sound, StaysProper, Whole, tally_in}
use Rattle.reception.specs.Reports.{fresh_report, is_proper, plus}
use Rattle.reception.specs.declared.Report.{Report}
use Rattle.reception.proofs.Parts.{is_proper_lem, parts}
use Rattle.reception.proofs.Tallies.{fresh_whole, plus_proper, tallies_whole}

-- what was counted: s came to r
abbrev pub Came : Report → Report → Report → Type 0
Came r s after = (r.blocks + s.blocks ≤ 2 ^ 32) × (after ≡ plus r s)

-- a test that decides whether something is counted held
held : (t : Bool) (x : Result Report Refusal) (why : Refusal) (after : Report) → cond t x (Err why) ≡ Ok after → (t ≡ true) × (x ≡ Ok after)
held true x why after e = (refl, e)
held false x why after e = cc

with_more_lem : (r s after : Report) → with_more r s ≡ Ok after → Came r s after
with_more_lem r s after e =
    let h = held (leb (r.blocks + s.blocks) (2 ^ 32)) (Ok (plus r s)) TooManyBlocks after e in
    let is : Ok (plus r s) ≡ Ok after = h.1 in
    let same : after ≡ plus r s = cc in
    (leb-true _ _ h.0, same)

pub join_came : (r s after : Report) → join_of r s ≡ Ok after → Came r s after
unfolding join_of
join_came r s after e = with_more_lem r s after (held (is_proper r && is_proper s) (with_more r s) Improper after e).1

module _ (edition : Edition) where
  said_came : (r after : Report) (says : Result (List Entry) Refusal) → with_said edition r says ≡ Ok after → Came r (tally_in edition says) after
  said_came r after (Ok es) e = with_more_lem r _ after e
  said_came r after (Err why) e = cc

  pub add_came : (r : Report) (journal : List ℕ) (after : Report) → add_of edition r journal ≡ Ok after → Came r (tally_in edition (says_of journal)) after
  unfolding add_of
  add_came r journal after e = said_came r after (says_of journal) (held (is_proper r) (with_said edition r (says_of journal)) Improper after e).1

  pub said_whole : (says : Result (List Entry) Refusal) → Sixteen (tally_in edition says) × Whole (tally_in edition says)
  said_whole (Ok es) = let t = tallies_whole edition es in (t.sixteen, t.whole)
  said_whole (Err why) = (refl, fresh_whole)

pub stays_proper : StaysProper
stays_proper =
    record {
      fresh = (is_proper_lem fresh_report (omega arith) fresh_whole, refl);
      adding = λ edition r journal after p e.
          let came = add_came edition r journal after e in
          let said = said_whole edition (says_of journal) in
          subst Sound (sym came.1) (plus_proper r _ p said.0 said.1 came.0);
      joining = λ r other after p q e.
          let came = join_came r other after e in
          subst Sound (sym came.1) (plus_proper r other p q.1 (parts other q.0).1 came.0);
    }
