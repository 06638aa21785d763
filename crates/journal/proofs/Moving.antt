-- Entries moved to the front: what is written, then those that are left, then the bytes behind, are the whole.
-- Assumes nothing.
use mathlib.Core.List.{List, ◌∷◌, ◌++◌, append_assoc}
use mathlib.Core.Path.{◌≡◌, refl, sym, ap, ap₂, ◌∙◌}
use Prim.Native.Nat.{ℕ, ◌+◌, ◌-◌, ◌*◌, ◌≤◌, ◌<◌}
use native.Mathlib.Omega.{arith}
use lib.ListN.{length, take, drop, length-drop, take-append-drop}
use lib.Seq.{drop-drop, take_all}
use Rattle.journal.specs.Entries.{entry_of, entries_of, pair_bytes, bytes_of}
use Rattle.journal.specs.declared.Entry.{Entry}
use Rattle.journal.proofs.Sixteens.{entries_next, length_pair, after, put_front, put_behind, put_length}

-- from the original bytes s₀, with s as the bytes are now: so many entries are left, read at one place and written at another
abbrev whole : List ℕ → List ℕ → ℕ → ℕ → ℕ → List ℕ
whole s₀ s from to left = take to s ++ (bytes_of (entries_of left (drop from s₀)) ++ drop (to + 16 * left) s₀)

pub record Moved (s₀ : List ℕ) (first count : ℕ) (s : List ℕ) (from to left : ℕ) : Type 0 where
  pub is : whole s₀ s from to left ≡ bytes_of (entries_of count (drop first s₀)) ++ drop (16 * count) s₀
  pub behind : drop to s ≡ drop to s₀
  pub size : length s ≡ length s₀
  pub ahead : to ≤ from
  pub inside : from + 16 * left ≤ length s₀

pub none_moved : (s : List ℕ) (first count : ℕ) → first + 16 * count ≤ length s → Moved s first count s first 0 count
none_moved s first count h =
    let d : 0 + 16 * count ≡ 16 * count = omega arith in
    record {
      is = ap (λ (n : ℕ). bytes_of (entries_of count (drop first s)) ++ drop n s) d;
      behind = refl;
      size = refl;
      ahead = omega arith;
      inside = h;
    }

-- an entry read from a place on
pub read_there : (s : List ℕ) (from : ℕ) {e : Entry} → e ≡ entry_of (take (length s - from) (drop from s)) → e ≡ entry_of (drop from s)
read_there s from is = is ∙ ap entry_of (take_all (length s - from) (drop from s) (omega (arith, length-drop from s)))

-- by the place of the entry that comes next
pub next_place : {s₀ : List ℕ} {first count : ℕ} {s : List ℕ} (place : ℕ) → Moved s₀ first count s (first + 16 * place + 16) (16 * place + 16) (count - place - 1)
    → Moved s₀ first count s (first + 16 * (place + 1)) (16 * (place + 1)) (count - (place + 1))
next_place {s₀} {first} {count} {s} place m =
    let a : first + 16 * (place + 1) ≡ first + 16 * place + 16 = omega arith in
    let b : 16 * (place + 1) ≡ 16 * place + 16 = omega arith in
    let c : count - (place + 1) ≡ count - place - 1 = omega arith in
    rw (a, b, c) m

pub all_moved : {s₀ : List ℕ} {first count : ℕ} {s : List ℕ} {from to left : ℕ} → left ≤ 0 → Moved s₀ first count s from to left
    → s ≡ bytes_of (entries_of count (drop first s₀)) ++ drop (16 * count) s₀
unfolding entries_of bytes_of
all_moved {s₀} {first} {count} {s} {from} {to} {left} h m =
    let z : left ≡ 0 = omega arith in
    let n : to + 16 * 0 ≡ to = omega arith in
    sym (ap (whole s₀ s from to) z ∙ ap (λ (t : List ℕ). take to s ++ t) (ap (λ (k : ℕ). drop k s₀) n ∙ sym m.behind) ∙ take-append-drop to s) ∙ m.is

-- an entry that is read is not written over yet
pub not_yet : {s₀ : List ℕ} {first count : ℕ} {s : List ℕ} {from to left : ℕ} → Moved s₀ first count s from to left → drop from s ≡ drop from s₀
not_yet {s₀} {first} {count} {s} {from} {to} {left} m =
    let e : to + (from - to) ≡ from = omega (arith, m.ahead) in
    let there : (t : List ℕ) → drop from t ≡ drop (from - to) (drop to t) =
    λ t. sym (drop-drop (from - to) to t ∙ ap (λ (k : ℕ). drop k t) e) in
    there s ∙ ap (drop (from - to)) m.behind ∙ sym (there s₀)

module _ {s₀ : List ℕ} {first count : ℕ} {s : List ℕ} {from to left : ℕ} (more : 0 < left) (e : Entry) (is : e ≡ entry_of (drop from s)) (m : Moved s₀ first count s from to left) where
  abbrev pair : List ℕ
  pair = pair_bytes e.bit e.block

  pub fits : to + 16 ≤ length s
  fits = omega (arith, m.ahead, m.inside, m.size)

  abbrev written : List ℕ
  written = after s pair to 16 (length_pair e.bit e.block) fits

  same_whole : whole s₀ written (from + 16) (to + 16) (left - 1) ≡ whole s₀ s from to left
  unfolding bytes_of
  same_whole =
      let rest : List ℕ = bytes_of (entries_of (left - 1) (drop (from + 16) s₀)) in
      let n : to + 16 + 16 * (left - 1) ≡ to + 16 * left = omega arith in
      let next : entries_of left (drop from s₀) ≡ e ∷ entries_of (left - 1) (drop (from + 16) s₀) =
      entries_next s₀ from left more ∙ ap (λ (x : Entry). x ∷ entries_of (left - 1) (drop (from + 16) s₀)) (ap entry_of (sym (not_yet m)) ∙ sym is) in
      ap₂ (λ (x : List ℕ) (k : ℕ). x ++ (rest ++ drop k s₀)) (put_front s pair to 16 (length_pair e.bit e.block) fits) n
      ∙ append_assoc (take to s) pair (rest ++ drop (to + 16 * left) s₀)
      ∙ ap (λ (t : List ℕ). take to s ++ t) (sym (append_assoc pair rest (drop (to + 16 * left) s₀)))
      ∙ ap (λ (es : List Entry). take to s ++ (bytes_of es ++ drop (to + 16 * left) s₀)) (sym next)

  pub one_moved : Moved s₀ first count written (from + 16) (to + 16) (left - 1)
  one_moved =
      record {
        is = same_whole ∙ m.is;
        behind =
            put_behind s pair to 16 (length_pair e.bit e.block) fits ∙ sym (drop-drop 16 to s) ∙ ap (drop 16) m.behind ∙ drop-drop 16 to s₀;
        size = put_length s pair to 16 (length_pair e.bit e.block) fits ∙ m.size;
        ahead = omega (arith, m.ahead);
        inside = omega (arith, m.inside);
      }
