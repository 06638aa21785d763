-- Entries judged one after the other: what is found so far, with what is left, makes up the whole.
-- Assumes nothing.
use Rattle.std.proofs.Common.{◌≡◌, ℕ, suc, ◌+◌, ◌≤◌, ◌<◌, Bool, true, false, cond, ◌&&◌, leb, List, [], ◌∷◌, length, get_or, drop, Result, Ok, Err, sym, ap, ap₂, ◌∙◌, zero-add, add-one, drop-cons, drop_of_length-le, arith}
use Rattle.block.specs.Packed.{fits}
use Rattle.refusal.specs.declared.Refusal.{Refusal}
use Rattle.refusal.specs.declared.Refusal.TheVariants.{NumberTooWide, NotRising}
use Rattle.journal.specs.Order.{verdict_on, verdict_from, sound_from, checked_of}
use Rattle.journal.specs.declared.Checked.{Checked}
use Rattle.journal.specs.declared.Entry.{Entry}

abbrev pub checked : ℕ → Result (Unit {0}) Refusal → Checked
checked n v = record { sound = n; verdict = v }

-- so many were sound, and these are left
abbrev pub checked_from : ℕ → ℕ → List Entry → Checked
checked_from seen least es = checked (seen + sound_from least es) (verdict_from least es)

-- ---- the next entry

-- by its two tests, where the others decide if it passes both
abbrev verdict_by : Bool → Bool → Result (Unit {0}) Refusal → Result (Unit {0}) Refusal
verdict_by rises narrow others = cond rises (cond narrow others (Err NumberTooWide)) (Err NotRising)

none_more : (seen : ℕ) → seen + 0 ≡ seen
none_more seen = omega arith

module _ (seen least : ℕ) (e : Entry) (es : List Entry) where
  -- what is found of the entries behind it
  abbrev n : ℕ
  n = sound_from (e.bit + 1) es

  abbrev v : Result (Unit {0}) Refusal
  v = verdict_from (e.bit + 1) es

  goes_on : verdict_on least e ≡ Ok tt → checked_from seen least (e ∷ es) ≡ checked_from (seen + 1) (e.bit + 1) es
  unfolding verdict_from sound_from
  goes_on = go (leb least e.bit) (fits e.block)
    where
      go : (a b : Bool) → verdict_by a b (Ok tt) ≡ Ok tt
          → checked (seen + cond (a && b) (suc n) 0) (verdict_by a b v) ≡ checked (seen + 1 + n) v
      go true true h = let more : seen + suc n ≡ seen + 1 + n = omega arith in ap (λ (k : ℕ). checked k v) more
      go true false h = cc
      go false b h = cc

  stops : {why : Refusal} → verdict_on least e ≡ Err why → checked_from seen least (e ∷ es) ≡ checked seen (Err why)
  unfolding verdict_from sound_from
  stops {why} = go (leb least e.bit) (fits e.block)
    where
      go : (a b : Bool) → verdict_by a b (Ok tt) ≡ Err why
          → checked (seen + cond (a && b) (suc n) 0) (verdict_by a b v) ≡ checked seen (Err why)
      go true true h = cc
      go true false h = ap₂ checked (none_more seen) h
      go false b h = ap₂ checked (none_more seen) h

-- ---- along the entries

module _ (es : List Entry) where
  -- the answer to all of them, from what was found so far
  abbrev pub Answers : ℕ → ℕ → Type 0
  Answers seen least = checked_from seen least (drop seen es) ≡ checked_of es

  pub all_left : Answers 0 0
  unfolding checked_of
  all_left = ap (λ (k : ℕ). checked k (verdict_from 0 es)) (zero-add (sound_from 0 es))

  pub none_left : (seen least : ℕ) → length es ≤ seen → Answers seen least → checked seen (Ok tt) ≡ checked_of es
  unfolding verdict_from sound_from
  none_left seen least h answers =
      sym (ap (checked_from seen least) (drop_of_length-le es h) ∙ ap (λ (k : ℕ). checked k (Ok tt)) (none_more seen)) ∙ answers

  module _ (seen least : ℕ) (more : seen < length es) (e : Entry) (is : get_or es seen e ≡ e) (answers : Answers seen least) where
    from : checked_from seen least (e ∷ drop (seen + 1) es) ≡ checked_of es
    from = ap (checked_from seen least) (sym (rw (add-one, drop-cons es seen e more) (ap (λ (x : Entry). x ∷ drop (suc seen) es) is))) ∙ answers

    pub one_more : verdict_on least e ≡ Ok tt → Answers (seen + 1) (e.bit + 1)
    one_more h = sym (goes_on seen least e (drop (seen + 1) es) h) ∙ from

    pub one_faulty : {why : Refusal} → verdict_on least e ≡ Err why → checked seen (Err why) ≡ checked_of es
    one_faulty h = sym (stops seen least e (drop (seen + 1) es) h) ∙ from

-- ---- at most all are sound

pub sound_le : (least : ℕ) (es : List Entry) → sound_from least es ≤ length es
unfolding sound_from
sound_le least [] = omega arith
sound_le least (e ∷ es) = go (leb least e.bit && fits e.block) (sound_le (e.bit + 1) es)
  where
    go : (t : Bool) → sound_from (e.bit + 1) es ≤ length es → cond t (suc (sound_from (e.bit + 1) es)) 0 ≤ suc (length es)
    go true h = omega arith
    go false h = omega arith
