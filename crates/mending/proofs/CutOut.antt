-- A burst is six bits with zeros before and behind them, and so a number of six bits moved up.
-- Assumes nothing.
use mathlib.Core.List.{List, [], ◌∷◌, ◌++◌}
use mathlib.Core.Path.{◌≡◌, sym, ap, ap₂, ◌∙◌}
use Prim.Native.Nat.{ℕ, zero, suc, ◌+◌, ◌-◌, ◌*◌, ◌^◌, ◌<◌, ◌≤◌, min}
use native.Mathlib.Omega.{arith}
use lib.ListN.{length, take, drop, length-drop, length-take, take-append-drop}
use lib.Seq.{get_or-drop, get_or-take}
use Rattle.block.specs.Bits.{Bits, bits_of, value, value_from, zeros}
use Rattle.block.proofs.Strings.{bits_drop, bits_take, bits_of_val, parts, val_append, val_ge, val_mod, val_zeros, zeros_behind}
use Rattle.detection.specs.Damage.{Changed, Among, weight}
use Rattle.detection.proofs.Places.{changed_lt, unchanged}
use Rattle.mending.specs.Changes.{Burst, First}
use Rattle.mending.proofs.Bursts.{Six, six_of_lem}

-- changes among six places: what they are, between zeros
pub cut_out : (t : List ℕ) (j n : ℕ) → Bits t → length t ≡ j + 6 + n → ((k : ℕ) → Changed t k → Among j 6 k)
    → t ≡ zeros j ++ (bits_of 6 (value (take 6 (drop j t))) ++ zeros n)
cut_out t j n h l f =
    let six : List ℕ = take 6 (drop j t) in
    let one : take j t ≡ zeros (length (take j t)) =
    unchanged (take j t) (bits_take j t h)
    (λ k c. let i : k < j = omega (arith, changed_lt (take j t) k c, length-take j t) in omega (arith, f k (sym (get_or-take j t k 0 i) ∙ c))) in
    let two : drop (j + 6) t ≡ zeros (length (drop (j + 6) t)) =
    unchanged (drop (j + 6) t) (bits_drop (j + 6) t h) (λ k c. omega (arith, f (j + 6 + k) (sym (get_or-drop (j + 6) t k 0) ∙ c))) in
    let lone : length (take j t) ≡ j = omega (arith, length-take j t) in
    let ltwo : length (drop (j + 6) t) ≡ n = omega (arith, length-drop (j + 6) t) in
    let lsix : length six ≡ 6 = omega (arith, length-take 6 (drop j t), length-drop j t) in
    sym (take-append-drop j t)
    ∙ ap₂ (λ (x y : List ℕ). x ++ y) (one ∙ ap zeros lone)
    (parts t j 6 ∙ ap₂ (λ (x y : List ℕ). x ++ y) (sym (bits_of_val 6 six (bits_take 6 (drop j t) (bits_drop j t h)) lsix)) (two ∙ ap zeros ltwo))

pub some_value : (e : List ℕ) → 1 ≤ weight e → 0 < value e
unfolding value_from
some_value [] w = absurd (omega arith)
some_value (zero ∷ e) w = some_value e (omega arith)
some_value (suc b ∷ e) w = omega (arith, val_ge e (0 * 2 + suc b))

between_zeros : (s : List ℕ) (j n : ℕ) → value (zeros j ++ (s ++ zeros n)) ≡ value s * 2 ^ n
between_zeros s j n =
    let z : value (zeros j) ≡ 0 = val_zeros j 0 ∙ omega arith in
    val_append (zeros j) (s ++ zeros n) 0 ∙ ap (λ (a : ℕ). value_from a (s ++ zeros n)) z ∙ zeros_behind s n

pub burst_six : (e : List ℕ) → Burst 6 e → Six (value e)
burst_six e b =
    let first : ℕ = b.within.first in
    let j : ℕ = min first 44 in
    let n : ℕ = 44 - j in
    let v : ℕ = value (take 6 (drop j e)) in
    let w : ℕ = value (bits_of 6 v) in
    let size : length e ≡ 50 = b.pattern.size in
    let cut : e ≡ zeros j ++ (bits_of 6 v ++ zeros n) =
    cut_out e j n b.pattern.bits (omega arith)
    (λ k c. let i = b.within.among k c in record { from = omega (arith, i.from); to = omega (arith, i.to, changed_lt e k c) }) in
    let is : value e ≡ w * 2 ^ n = ap value cut ∙ between_zeros (bits_of 6 v) j n in
    rw is (six_of_lem n w (omega arith) (omega (arith, val_mod 6 v)))

-- the first changed place
pub first_of : (e : List ℕ) → Bits e → 1 ≤ weight e → (k : ℕ) × First e k
first_of [] h w = absurd (omega arith)
first_of (zero ∷ e) h w =
    let f = first_of e h.1 (omega arith) in (
      suc f.0,
      record {
        changed = f.1.changed;
        least = λ k. elim k as (λ k. Changed (0 ∷ e) k → suc f.0 ≤ k) [ zero ↦ λ c. absurd (omega arith) | suc k ↦ λ c. omega (arith, f.1.least k c) ];
      },
    )
first_of (suc b ∷ e) h w = (0, record { changed = omega (arith, h.0); least = λ k c. omega arith })
