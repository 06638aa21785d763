-- What compaction leaves says the same: entries and trailer are read back, and the second time nothing moves.
-- Assumes nothing.
use mathlib.Core.List.{List, [], ◌++◌, append_assoc, append-nil}
use mathlib.Core.Path.{◌≡◌, refl, sym, ap, ◌∙◌, subst}
use Rattle.std.proofs.Common.{Ok}
use Prim.Native.Nat.{ℕ, ◌-◌, ◌^◌, ◌≤◌, ◌<◌}
use native.Mathlib.Omega.{arith}
use lib.ListN.{length, take, drop, length-append, length-replicate}
use lib.Seq.{take_at, drop_at}
use Rattle.block.specs.Bits.{zeros}
use Rattle.journal.specs.Compaction.{journal_length, journal_of, compact_by, compacted_by, compact_of, compacted_of}
use Rattle.journal.specs.Entries.{entry_of, entries_of, pair_bytes, bytes_of}
use Rattle.journal.specs.Laws.{Bytes, Compacts, WantedKept}
use Rattle.journal.specs.Order.{verdict_from}
use Rattle.journal.specs.Trailer.{offset_in, count_in, pointed_of, says_of}
use Rattle.journal.specs.declared.Entry.{Entry}
use Rattle.journal.specs.declared.Wanted.{Wanted}
use Rattle.journal.proofs.Pointing.{pointed, pointed_inside, sound_wanted, wanted_says}
use Rattle.journal.proofs.ReadBack.{AllSmall, bytes_drop, entry_small, entries_small, pair_back, entries_back, trailer_there}
use Rattle.journal.proofs.Saying.{Said, as_said, there}
use Rattle.journal.proofs.Sixteens.{length_entries, length_pair, length_bytes}

-- ---- entries and the trailer behind them

abbrev pub kept : List Entry → List ℕ
kept es = bytes_of es ++ pair_bytes 0 (length es)

kept_length : (es : List Entry) → length (kept es) ≡ journal_length es
kept_length es = length-append (bytes_of es) (pair_bytes 0 (length es)) ∙ omega (arith, length_bytes es, length_pair 0 (length es))

-- where they lie
abbrev all : List Entry → Wanted
all es = record { first = 0; count = length es }

module _ (es : List Entry) (small : AllSmall es) (few : length es < 2 ^ 64) where
  trailer_back : ◌≡◌ {A = Entry} (record { bit = offset_in (kept es); block = count_in (kept es) }) (record { bit = 0; block = length es })
  trailer_back =
      let pair : List ℕ = pair_bytes 0 (length es) in
      let end : length (bytes_of es) ≡ length (kept es) - 16 = omega (arith, length_bytes es, kept_length es) in
      sym (trailer_there (kept es) (omega (arith, kept_length es)))
      ∙ ap entry_of (drop_at (bytes_of es) pair (length (kept es) - 16) end ∙ sym (append-nil pair)) ∙ pair_back 0 (length es) [] (omega arith) few

  kept_pointed : pointed_of (kept es) ≡ Ok (all es)
  kept_pointed =
      sym (pointed (kept es) (omega (arith, kept_length es)) (omega (arith, kept_length es)) (sym (ap (λ (e : Entry). e.bit) trailer_back))
      (sym (ap (λ (e : Entry). e.block) trailer_back)) refl (omega (arith, kept_length es)))

  pub kept_says : verdict_from 0 es ≡ Ok tt → says_of (kept es) ≡ Ok es
  kept_says sound =
      let back : entries_of (length es) (kept es) ≡ es = entries_back es (pair_bytes 0 (length es)) small in
      wanted_says (kept es) (all es) (sym (sound_wanted (kept es) (all es) kept_pointed (ap (verdict_from 0) back ∙ sound))) ∙ ap Ok back

-- ---- in so many bytes

module _ (es : List Entry) (size : ℕ) where
  abbrev rest : List ℕ
  rest = zeros (size - journal_length es)

  regroup : journal_of es size ≡ kept es ++ rest
  unfolding journal_of
  regroup = sym (append_assoc (bytes_of es) (pair_bytes 0 (length es)) rest)

  journal_front : take (journal_length es) (journal_of es size) ≡ kept es
  journal_front = ap (take (journal_length es)) regroup ∙ take_at (kept es) rest (journal_length es) (kept_length es)

  journal_behind : drop (journal_length es) (journal_of es size) ≡ rest
  journal_behind = ap (drop (journal_length es)) regroup ∙ drop_at (kept es) rest (journal_length es) (kept_length es)

  journal_length_lem : journal_length es ≤ size → length (journal_of es size) ≡ size
  journal_length_lem h =
      ap length regroup ∙ length-append (kept es) rest ∙ omega (arith, kept_length es, length-replicate {A = ℕ} (size - journal_length es) 0)

no_rest : (es : List Entry) → journal_of es (length (kept es)) ≡ kept es
no_rest es =
    let z : length (kept es) - journal_length es ≡ 0 = omega (arith, kept_length es) in
    regroup es (length (kept es)) ∙ ap (λ (n : ℕ). kept es ++ zeros n) z ∙ append-nil (kept es)

-- ---- a journal that says these entries

module _ (s : List ℕ) (bytes : Bytes s) (es : List Entry) (said : says_of s ≡ Ok es) where
  heard : Said s es
  heard = as_said s es said

  many : length es ≡ count_in s
  many = ap length heard.is ∙ length_entries (count_in s) (drop (offset_in s) s)

  inside : journal_length es ≤ length s
  inside = omega (arith, many, pointed_inside s (there s) heard.pointed)

  small : AllSmall es
  small = subst AllSmall (sym heard.is) (entries_small (count_in s) (drop (offset_in s) s) (bytes_drop (offset_in s) s bytes))

  few : length es < 2 ^ 64
  few =
      let end : List ℕ = drop (length s - 16) s in
      let there : (entry_of end).block ≡ count_in s = ap (λ (e : Entry). e.block) (trailer_there s (omega (arith, inside))) in
      omega (arith, many, there, (entry_small end (bytes_drop (length s - 16) s bytes)).1)

  settles : compacted_of s ≡ journal_of es (length s)
  unfolding compacted_of
  settles = ap (compacted_by s) said

  front : take (journal_length es) (compacted_of s) ≡ kept es
  front = ap (take (journal_length es)) settles ∙ journal_front es (length s)

  same : says_of (kept es) ≡ Ok es
  same = kept_says es small few heard.sound

  compacts : Compacts s es
  unfolding compact_of compacted_of
  compacts =
      record {
        told = ap compact_by said;
        size = ap length settles ∙ journal_length_lem es (length s) inside;
        inside = inside;
        only = front;
        cleared = ap (drop (journal_length es)) settles ∙ journal_behind es (length s);
        says = ap says_of front ∙ same;
        again = ap compact_of front ∙ ap compact_by same;
        stays = ap compacted_of front ∙ ap (compacted_by (kept es)) same ∙ no_rest es ∙ sym front;
      }

pub wanted_kept : WantedKept
wanted_kept = compacts
