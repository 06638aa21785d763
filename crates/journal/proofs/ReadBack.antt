-- Entries are read back from their bytes: a number in eight bytes is below 2 ^ 64, and each such number fits into eight bytes.
-- Assumes nothing.
use mathlib.Core.List.{List, [], ◌∷◌, ◌++◌, append_assoc}
use mathlib.Core.Path.{◌≡◌, refl, sym, ap, ap₂, ◌∙◌}
use Prim.Native.Nat.{ℕ, zero, suc, ◌+◌, ◌-◌, ◌*◌, ◌^◌, ◌≤◌, ◌<◌}
use native.Mathlib.Nat.{mod-eq_of_lt}
use native.Mathlib.Omega.{arith}
use lib.ListN.{length, take, drop, length-take}
use lib.Pow.{pow_mono}
use lib.Seq.{get_or-drop, take_at, drop_at, drop-drop}
use Rattle.big_endian.specs.Digits.{digits, number}
use Rattle.big_endian.proofs.Bytes.{all_told, number_there}
use Rattle.big_endian.proofs.Digits.{length_digits, number_digits}
use Rattle.journal.specs.Entries.{entry_of, entries_of, pair_bytes, bytes_of}
use Rattle.journal.specs.Laws.{Bytes}
use Rattle.journal.specs.Trailer.{offset_in, count_in}
use Rattle.journal.specs.declared.Entry.{Entry}
use Rattle.journal.proofs.Sixteens.{length_pair}

abbrev pub Small : Entry → Type 0
Small e = (e.bit < 2 ^ 64) × (e.block < 2 ^ 64)

abbrev pub AllSmall : List Entry → Type 0
AllSmall [] = Unit {0}
AllSmall (e ∷ es) = Small e × AllSmall es

-- ---- what is read is small

bytes_take : (n : ℕ) (s : List ℕ) → Bytes s → Bytes (take n s)
bytes_take zero s b i = omega arith
bytes_take (suc n) [] b i = omega arith
bytes_take (suc n) (x ∷ s) b zero = b 0
bytes_take (suc n) (x ∷ s) b (suc i) = bytes_take n s (λ j. b (suc j)) i

pub bytes_drop : (n : ℕ) (s : List ℕ) → Bytes s → Bytes (drop n s)
bytes_drop n s b i = rw get_or-drop (b (n + i))

eight_small : (s : List ℕ) → Bytes s → number 8 (take 8 s) < 2 ^ 64
eight_small s b =
    let l : length (take 8 s) ≤ 8 = simp length-take (omega arith) in
    let m : 8 * length (take 8 s) ≤ 64 = omega arith in
    omega (arith, (all_told (take 8 s) (bytes_take 8 s b) 8 l refl).fits, pow_mono m)

pub entry_small : (s : List ℕ) → Bytes s → Small (entry_of s)
unfolding entry_of
entry_small s b = (eight_small s b, eight_small (drop 8 s) (bytes_drop 8 s b))

pub entries_small : (n : ℕ) (s : List ℕ) → Bytes s → AllSmall (entries_of n s)
unfolding entries_of
entries_small zero s b = tt
entries_small (suc n) s b = (entry_small s b, entries_small n (drop 16 s) (bytes_drop 16 s b))

-- ---- what is small is read back

number_back : (n : ℕ) (t : List ℕ) → n < 2 ^ 64 → number 8 (take 8 (digits 8 8 n ++ t)) ≡ n
number_back n t h = ap (number 8) (take_at (digits 8 8 n) t 8 (length_digits 8 8 n)) ∙ number_digits 8 8 n ∙ mod-eq_of_lt h

pub pair_back : (a b : ℕ) (t : List ℕ) → a < 2 ^ 64 → b < 2 ^ 64 → entry_of (pair_bytes a b ++ t) ≡ record { bit = a; block = b }
unfolding entry_of pair_bytes
pair_back a b t h k =
    let two : List ℕ = digits 8 8 b ++ t in
    ap entry_of (append_assoc (digits 8 8 a) (digits 8 8 b) t)
    ∙ ap₂ (λ (m n : ℕ). record { bit = m; block = n }) (number_back a two h)
    (ap (λ (x : List ℕ). number 8 (take 8 x)) (drop_at (digits 8 8 a) two 8 (length_digits 8 8 a)) ∙ number_back b t k)

pub entries_back : (es : List Entry) (t : List ℕ) → AllSmall es → entries_of (length es) (bytes_of es ++ t) ≡ es
unfolding entries_of bytes_of
entries_back [] t small = refl
entries_back (e ∷ es) t small =
    let pair : List ℕ = pair_bytes e.bit e.block in
    let rest : List ℕ = bytes_of es ++ t in
    ap (λ (x : List ℕ). entry_of x ∷ entries_of (length es) (drop 16 x)) (append_assoc pair (bytes_of es) t)
    ∙ ap₂ (λ (x : Entry) (xs : List Entry). x ∷ xs) (pair_back e.bit e.block rest small.0.0 small.0.1)
    (ap (entries_of (length es)) (drop_at pair rest 16 (length_pair e.bit e.block)) ∙ entries_back es t small.1)

-- the trailer's two numbers stand as an entry's do
pub trailer_there : (s : List ℕ) → 16 ≤ length s → entry_of (drop (length s - 16) s) ≡ record { bit = offset_in s; block = count_in s }
unfolding entry_of offset_in count_in
trailer_there s h =
    let end : ℕ = length s - 16 in
    ap₂ (λ (m n : ℕ). record { bit = m; block = n }) (sym (number_there s end (omega arith)))
    (ap (λ (x : List ℕ). number 8 (take 8 x)) (drop-drop 8 end s) ∙ sym (number_there s (end + 8) (omega arith)))
