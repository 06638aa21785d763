-- Sixteen bytes at a time: the entry at a place, those behind it, and two numbers put into a place.
-- Assumes nothing.
use Rattle.std.proofs.Common.{◌≡◌, ℕ, zero, suc, ◌+◌, ◌-◌, ◌*◌, ◌/◌, ◌≤◌, ◌<◌, List, [], ◌∷◌, ◌++◌, length, get_or, take, drop, refl, sym, ap, ap₂, ◌∙◌, append_assoc, length-append, length-drop, length-take, length-take-le, take-take, drop-drop, take_at, drop_at, arith}
use Rattle.std.proofs.lemmas.List.{drop-take}
use Rattle.std.specs.Simd.{first_chunks}
use Rattle.big_endian.specs.Bytes.{Told}
use Rattle.big_endian.specs.Digits.{digits, number}
use Rattle.big_endian.proofs.Bytes.{whole}
use Rattle.big_endian.proofs.Digits.{length_digits}
use Rattle.journal.specs.Entries.{entry_of, entries_of, pair_bytes, bytes_of}
use Rattle.journal.specs.Salvage.{whole_entries}
use Rattle.journal.specs.declared.Entry.{Entry}

pub length_entries : (n : ℕ) (s : List ℕ) → length (entries_of n s) ≡ n
unfolding entries_of
length_entries zero s = refl
length_entries (suc n) s = ap suc (length_entries n (drop 16 s))

pub length_pair : (a b : ℕ) → length (pair_bytes a b) ≡ 16
unfolding pair_bytes
length_pair a b = length-append (digits 8 8 a) (digits 8 8 b) ∙ ap₂ ◌+◌ (length_digits 8 8 a) (length_digits 8 8 b)

pub length_bytes : (es : List Entry) → length (bytes_of es) ≡ 16 * length es
unfolding bytes_of
length_bytes [] = refl
length_bytes (e ∷ es) = length-append (pair_bytes e.bit e.block) (bytes_of es) ∙ omega (arith, length_pair e.bit e.block, length_bytes es)

-- ---- reading

-- what is told of the two halves of sixteen bytes
pub entry_read : (s : List ℕ) → 16 ≤ length s → {a b : ℕ} → Told (take 8 s) a → Told (take 8 (drop 8 s)) b → ◌≡◌ {A = Entry} (record { bit = a; block = b }) (entry_of s)
unfolding entry_of
entry_read s h one two =
    ap₂ (λ (a b : ℕ). record { bit = a; block = b }) (whole one (simp length-take (omega arith))) (whole two (simp (length-take, length-drop) (omega arith)))

-- an entry is read from its sixteen bytes alone, and entries from theirs
pub entry_alone : (s : List ℕ) → entry_of (take 16 s) ≡ entry_of s
unfolding entry_of
entry_alone s =
    let first : take 8 (take 16 s) ≡ take 8 s = take-take 8 16 s (omega arith) in
    let second : take 8 (drop 8 (take 16 s)) ≡ take 8 (drop 8 s) = ap (take 8) (drop-take 8 8 s) ∙ take-take 8 8 (drop 8 s) (omega arith) in
    ap₂ (λ (a b : List ℕ). record { bit = number 8 a; block = number 8 b }) first second

pub entries_alone : (n m : ℕ) (s : List ℕ) → 16 * n ≤ m → entries_of n (take m s) ≡ entries_of n s
unfolding entries_of
entries_alone zero m s h = refl
entries_alone (suc n) m s h =
    ap₂ (λ (e : Entry) (es : List Entry). e ∷ es)
    (sym (entry_alone (take m s)) ∙ ap entry_of (take-take 16 m s (omega arith)) ∙ entry_alone s)
    (let more : m ≡ 16 + (m - 16) = omega arith in ap (λ (k : ℕ). entries_of n (drop 16 (take k s))) more ∙ ap (entries_of n) (drop-take 16 (m - 16) s) ∙ entries_alone n (m - 16) (drop 16 s) (omega arith))

-- the entry at a place is that of the chunk there
pub entry_at_place : (n : ℕ) (s : List ℕ) (i : ℕ) (d : Entry) → i < n → get_or (entries_of n s) i d ≡ entry_of (get_or (first_chunks 16 n s) i [])
unfolding entries_of
entry_at_place zero s i d h = absurd (omega arith)
entry_at_place (suc n) s zero d h = sym (entry_alone s)
entry_at_place (suc n) s (suc i) d h = entry_at_place n (drop 16 s) i d (omega arith)

pub entry_in_chunks : (s : List ℕ) (i : ℕ) {chunks : List (List ℕ)} (e : Entry) → chunks ≡ first_chunks 16 (length s / 16) s → i < length s / 16
    → e ≡ entry_of (get_or chunks i []) → get_or (whole_entries s) i e ≡ e
entry_in_chunks s i e all h is =
    entry_at_place (length s / 16) s i e h ∙ ap (λ (chunks : List (List ℕ)). entry_of (get_or chunks i [])) (sym all) ∙ sym is

module _ (s : List ℕ) (at : ℕ) where
  -- the whole entries in a part are those that begin there
  pub entries_part : (n : ℕ) → at + 16 * n ≤ length s → whole_entries (take (at + 16 * n - at) (drop at s)) ≡ entries_of n (drop at s)
  entries_part n h =
      let d : at + 16 * n - at ≡ 16 * n = omega arith in
      let l : length (take (16 * n) (drop at s)) ≡ 16 * n = simp (length-take, length-drop) (omega arith) in
      let k : 16 * n / 16 ≡ n = omega arith in
      rw (d, l, k) (entries_alone n (16 * n) (drop at s) (omega arith))

  pub entries_next : (left : ℕ) → 0 < left → entries_of left (drop at s) ≡ entry_of (drop at s) ∷ entries_of (left - 1) (drop (at + 16) s)
  unfolding entries_of
  entries_next zero h = absurd (omega arith)
  entries_next (suc left) h =
      let d : suc left - 1 ≡ left = omega arith in
      ap₂ (λ (n : ℕ) (t : List ℕ). entry_of (drop at s) ∷ entries_of n t) (sym d) (drop-drop 16 at s)

-- ---- writing

-- n bytes put into a place: those before it and those behind it are as they were
module _ (s ys : List ℕ) (at n : ℕ) (size : length ys ≡ n) (inside : at + n ≤ length s) where
  abbrev front : List ℕ
  front = take at s ++ ys

  abbrev pub after : List ℕ
  after = take at s ++ (ys ++ drop (at + n) s)

  length_front : length front ≡ at + n
  length_front = length-append (take at s) ys ∙ ap₂ ◌+◌ (length-take-le at s (omega arith)) size

  regroup : after ≡ front ++ drop (at + n) s
  regroup = sym (append_assoc (take at s) ys (drop (at + n) s))

  pub put_front : take (at + n) after ≡ front
  put_front = ap (take (at + n)) regroup ∙ take_at front (drop (at + n) s) (at + n) length_front

  pub put_behind : drop (at + n) after ≡ drop (at + n) s
  put_behind = ap (drop (at + n)) regroup ∙ drop_at front (drop (at + n) s) (at + n) length_front

  pub put_length : length after ≡ length s
  put_length = ap length regroup ∙ length-append front (drop (at + n) s) ∙ omega (arith, length_front, length-drop (at + n) s)

module _ (s : List ℕ) (at a b : ℕ) (inside : at + 16 ≤ length s) where
  abbrev one : List ℕ
  one = digits 8 8 a

  abbrev two : List ℕ
  two = digits 8 8 b

  abbrev half : List ℕ
  half = after s one at 8 (length_digits 8 8 a) (omega arith)

  half_behind : drop (at + 8 + 8) half ≡ drop (at + 16) s
  half_behind =
      let e : at + 8 + 8 ≡ at + 16 = omega arith in
      sym (drop-drop 8 (at + 8) half) ∙ ap (drop 8) (put_behind s one at 8 (length_digits 8 8 a) (omega arith)) ∙ drop-drop 8 (at + 8) s ∙ ap (λ (n : ℕ). drop n s) e

  pub pair_there : {s₁ : List ℕ} → s₁ ≡ half → take (at + 8) s₁ ++ (two ++ drop (at + 8 + 8) s₁) ≡ take at s ++ (pair_bytes a b ++ drop (at + 16) s)
  unfolding pair_bytes
  pair_there is =
      ap (λ (t : List ℕ). take (at + 8) t ++ (two ++ drop (at + 8 + 8) t)) is
      ∙ ap₂ (λ (x y : List ℕ). x ++ (two ++ y)) (put_front s one at 8 (length_digits 8 8 a) (omega arith)) half_behind
      ∙ append_assoc (take at s) one (two ++ drop (at + 16) s) ∙ ap (λ (t : List ℕ). take at s ++ t) (sym (append_assoc one two (drop (at + 16) s)))

  pub half_length : {s₁ : List ℕ} → s₁ ≡ half → length s₁ ≡ length s
  half_length is = ap length is ∙ put_length s one at 8 (length_digits 8 8 a) (omega arith)
