-- Words and records, there and back: each field has its own place in the word, so joining and splitting undo each other.
-- Assumes nothing.
use Rattle.std.specs.Prelude.{Ok, Err}
use Prim.Native.Nat.{ℕ, ◌+◌, ◌*◌, ◌-◌, ◌/◌, ◌^◌, ◌<◌, ◌≤◌}
use native.Mathlib.Omega.{arith}
use mathlib.Core.Path.{◌≡◌, refl, ap}
use mathlib.Core.Bool.{Bool, true, false, cond, ◌&&◌, and-eq-true_iff}
use borrow.Author.Tests.{ne_eqb, lt-ltb, le-ltb, leb-true, eqb-true}
use lib.Dec.{eqb, ltb, leb}
use lib.IntN.{ℤ, pos, negsuc}
use Rattle.refusal.specs.declared.Refusal.TheVariants.{NotARecord, OutOfRange}
use Rattle.record.specs.declared.Edition.{Edition}
use Rattle.record.specs.declared.Edition.TheVariants.{Of1984, Of1982}
use Rattle.record.specs.declared.Record.{Record}
use Rattle.record.specs.Fields.{field, flag_of, offset_of, six_of, fields_of, word_of}
use Rattle.record.specs.Editions.{is_filler}
use Rattle.record.specs.Ranges.{offset_in_range, in_range}
use Rattle.record.specs.Words.{read_of, written_of}
use Rattle.record.proofs.Tests.{chosen, passed, not_given}
use Rattle.record.proofs.Reading.{read_fields}
use Rattle.record.proofs.Offset.{six_fits}
use Rattle.record.proofs.Bounds.{Bounds, bounds}

-- ---- six bits

pub six_back : (n : ℕ) → n < 64 → six_of (offset_of n) ≡ n
unfolding six_of offset_of
six_back n h = either (ltb n 32) (omega arith)
  where
    either : (t : Bool) → 63 - (63 - n) ≡ n → six_of (cond t (pos n) (negsuc (63 - n))) ≡ n
    either true e = refl
    either false e = e

pub offset_back : (z : ℤ) → offset_in_range z ≡ true → offset_of (six_of z) ≡ z
unfolding six_of offset_of offset_in_range
offset_back (pos n) r = let h : n ≤ 31 = leb-true n 31 r in rw (lt-ltb n 32 (omega arith))
offset_back (negsuc n) r =
    let h : n ≤ 31 = leb-true n 31 ((and-eq-true_iff (leb n 31) true).0 r).0 in
    let e : 63 - (63 - n) ≡ n = omega arith in
    rw (le-ltb (63 - n) 32 (omega arith), e)

-- ---- the fields of a word that was put together

fields_back : (r : Record) → Bounds r → fields_of (word_of r) ≡ r
unfolding fields_of word_of
fields_back r b =
    let six : six_of r.offset < 64 = six_fits r.offset b.time.offset_in in
    let leap : field (word_of r) 29 2 ≡ r.leap = omega arith in
    let start : field (word_of r) 26 3 ≡ r.start_day = omega arith in
    let week : field (word_of r) 20 6 ≡ r.week = omega arith in
    let weekday : field (word_of r) 17 3 ≡ r.weekday = omega arith in
    let hour : field (word_of r) 12 5 ≡ r.hour = omega arith in
    let minute : field (word_of r) 6 6 ≡ r.minute = omega arith in
    let offset : field (word_of r) 0 6 ≡ six_of r.offset = omega arith in
    rw (leap, start, week, weekday, hour, minute, offset, offset_back r.offset b.time.offset_in)

flag_zero : (r : Record) → Bounds r → flag_of (word_of r) ≡ 0
unfolding word_of
flag_zero r b = omega (arith, six_fits r.offset b.time.offset_in)

-- it is no filler: in 1984 by its flag, in 1982 by its start day
not_filler : (edition : Edition) (r : Record) → Bounds r → is_filler edition (word_of r) ≡ false
unfolding is_filler fields_of
not_filler Of1984 r b = ne_eqb (flag_of (word_of r)) 1 (λ one. omega (arith, flag_zero r b))
not_filler Of1982 r b = let start = ap (λ (s : Record). s.start_day) (fields_back r b) in ne_eqb (field (word_of r) 26 6) 0 (λ none. omega (arith, start))

-- the word that is put together from a word's fields
word_back : (word : ℕ) → word < 2 ^ 31 → word_of (fields_of word) ≡ word
unfolding fields_of word_of
word_back word h =
    let leap : field word 29 2 ≡ word / 2 ^ 29 = omega arith in
    let start : word / 2 ^ 29 * 2 ^ 3 + field word 26 3 ≡ word / 2 ^ 26 = omega arith in
    let week : word / 2 ^ 26 * 2 ^ 6 + field word 20 6 ≡ word / 2 ^ 20 = omega arith in
    let weekday : word / 2 ^ 20 * 2 ^ 3 + field word 17 3 ≡ word / 2 ^ 17 = omega arith in
    let hour : word / 2 ^ 17 * 2 ^ 5 + field word 12 5 ≡ word / 2 ^ 12 = omega arith in
    let minute : word / 2 ^ 12 * 2 ^ 6 + field word 6 6 ≡ word / 2 ^ 6 = omega arith in
    let offset : word / 2 ^ 6 * 2 ^ 6 + field word 0 6 ≡ word = omega arith in
    rw (six_back (field word 0 6) (omega arith), leap, start, week, weekday, hour, minute, offset)

-- ---- the calls

-- what is written reads back as the same record, in both editions
pub written_reads : (edition : Edition) (r : Record) (word : ℕ) → written_of r ≡ Ok word → read_of edition 0 word ≡ Ok r
unfolding written_of
written_reads edition r word w =
    let c = chosen (in_range r) (Ok (word_of r)) (Err OutOfRange) (Ok word) (not_given OutOfRange word) w in
    let same : word_of r ≡ word = cc in
    let b = bounds r c.0 in
    rw (← same, read_fields edition 0 (word_of r) refl (not_filler edition r b) (flag_zero r b), fields_back r b, c.0)

-- whatever reads as a record is the word that the writer writes for it
pub read_writes : (edition : Edition) (code word : ℕ) (r : Record) → word < 2 ^ 32 → read_of edition code word ≡ Ok r → written_of r ≡ Ok word
unfolding written_of read_of
read_writes edition code word r h given =
    let refused = not_given NotARecord r in
    let a = chosen (eqb code 0) _ _ _ refused given in
    let b = passed (is_filler edition word) _ _ _ refused a.1 in
    let c = chosen (eqb (flag_of word) 0 && in_range (fields_of word)) _ _ _ (not_given OutOfRange r) b in
    let same : fields_of word ≡ r = cc in
    let in_both = (and-eq-true_iff (eqb (flag_of word) 0) (in_range (fields_of word))).0 c.0 in
    let flag : flag_of word ≡ 0 = eqb-true _ 0 in_both.0 in
    rw (← same, in_both.1, word_back word (omega arith))
