-- A journal settled: entries in front, the trailer behind them, then zeros.
-- Assumes nothing.
use mathlib.Core.List.{List, ◌++◌, append_assoc, append-nil}
use mathlib.Core.Path.{◌≡◌, sym, ap, ap₂, ◌∙◌}
use Prim.Native.Nat.{ℕ, ◌+◌, ◌-◌, ◌*◌, ◌≤◌}
use native.Mathlib.Omega.{arith}
use lib.ListN.{length, take, drop, length-append, length-drop}
use lib.Seq.{take_at, drop-length}
use borrow.Rule.Slice.PartMut.{mid_of, put_mid, mid_len, Post-is}
use Rattle.block.specs.Bits.{zeros}
use Rattle.journal.specs.Compaction.{journal_of, journal_length}
use Rattle.journal.specs.Entries.{pair_bytes, bytes_of}
use Rattle.journal.specs.declared.Entry.{Entry}
use Rattle.journal.proofs.Sixteens.{length_pair, length_bytes, after, put_front, put_length}

-- the bytes behind a place, filled with zeros
pub cleared : (s : List ℕ) (at : ℕ) {ys : List ℕ} → at ≤ length s → ys ≡ zeros (length (mid_of at (length s - at) s))
    → put_mid at (length s - at) s ys ≡ take at s ++ zeros (length s - at)
cleared s at inside is =
    let l : length (mid_of at (length s - at) s) ≡ length s - at = mid_len at (length s) s (omega arith) in
    ap₂ (λ (ys rest : List ℕ). take at s ++ (ys ++ rest)) (is ∙ ap zeros l) (Post-is at (length s) s (omega arith) ∙ drop-length s)
    ∙ ap (λ (t : List ℕ). take at s ++ t) (append-nil (zeros (length s - at)))

module _ (s : List ℕ) (es : List Entry) (count : ℕ) (many : length es ≡ count) (inside : 16 * count + 16 ≤ length s) where
  abbrev end : ℕ
  end = count * 16

  abbrev moved : List ℕ
  moved = bytes_of es ++ drop (16 * count) s

  moved_length : length moved ≡ length s
  moved_length = length-append (bytes_of es) (drop (16 * count) s) ∙ omega (arith, length_bytes es, length-drop (16 * count) s)

  moved_front : take end moved ≡ bytes_of es
  moved_front = take_at (bytes_of es) (drop (16 * count) s) end (omega (arith, length_bytes es))

  abbrev pair : List ℕ
  pair = pair_bytes 0 count

  abbrev closed : List ℕ
  closed = after moved pair end 16 (length_pair 0 count) (omega (arith, moved_length))

  pub settled : {s₁ s₂ : List ℕ} → s₁ ≡ moved → s₂ ≡ take end s₁ ++ (pair ++ drop (end + 16) s₁)
      → take (end + 16) s₂ ++ zeros (length s₂ - (end + 16)) ≡ journal_of es (length s)
  unfolding journal_of
  settled {s₁} {s₂} one two =
      let is : s₂ ≡ closed = two ∙ ap (λ (t : List ℕ). take end t ++ (pair ++ drop (end + 16) t)) one in
      let inner : end + 16 ≤ length moved = omega (arith, moved_length) in
      let front = put_front moved pair end 16 (length_pair 0 count) inner in
      let size = put_length moved pair end 16 (length_pair 0 count) inner ∙ moved_length in
      let rest : length s - (end + 16) ≡ length s - journal_length es = omega arith in
      ap (λ (t : List ℕ). take (end + 16) t ++ zeros (length t - (end + 16))) is
      ∙ ap₂ (λ (x : List ℕ) (n : ℕ). x ++ zeros (n - (end + 16))) (front ∙ ap (λ (x : List ℕ). x ++ pair) moved_front) size
      ∙ append_assoc (bytes_of es) pair (zeros (length s - (end + 16)))
      ∙ ap₂ (λ (k n : ℕ). bytes_of es ++ (pair_bytes 0 k ++ zeros n)) (sym many) rest
