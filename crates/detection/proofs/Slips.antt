-- Slips: a good window would overlap with the block behind whose start it begins, or before whose start, in all but a few places.
-- Assumes nothing.
use mathlib.Core.List.{List, [], ◌∷◌, ◌++◌, append_assoc}
use mathlib.Core.Logic.{◌⊎◌, inl, inr}
use mathlib.Core.Path.{◌≡◌, sym, ap, ◌∙◌, subst}
use Prim.Native.Nat.{ℕ, zero, suc, ◌+◌, ◌-◌, ◌*◌, ◌^◌, ◌<◌, ◌≤◌}
use native.Mathlib.Decide.{dec_le, ℕ_discrete}
use native.Mathlib.Omega.{arith}
use lib.Dec.{eqb}
use lib.ListN.{length, get_or, take, drop, length-take, length-drop, take-append-drop}
use lib.Pow.{pow_mono}
use lib.Seq.{drop-cons, length-take-le, split_at}
use Rattle.block.specs.Bits.{Bits, value, value_from}
use Rattle.block.specs.Block.{Good, prefix_in}
use Rattle.block.proofs.CheckWord.{good_rem}
use Rattle.block.proofs.Strings.{bits_take, bits_drop, val_from, val_lt}
use Rattle.detection.specs.Slips.{Message, sent, window, before, after, IsRefused, SlipsRefused, NearRefused, Aligned}
use Rattle.detection.proofs.Overlap.{no_overlap}
use Rattle.detection.proofs.Refusal.{refused_not_zero, refused}
use Rattle.detection.proofs.Seams.{seam, seam_size, seam_bits}

-- ---- after a start: before the overlap stand the block's bits from its second to the window's first, behind it the next block's first

-- a good block's first bits write a large number, since the very first is a 1
pub first_bits : (y : List ℕ) (k : ℕ) → Good y → k < 50 → 2 ^ k ≤ value (take (suc k) y)
unfolding value_from
first_bits [] k g h = absurd (omega (arith, g.size))
first_bits (p ∷ y) k g h =
    let t : List ℕ = take k y in
    let e : 0 * 2 + p ≡ 1 = omega (arith, g.prefix) in
    omega (arith, ap (λ (v : ℕ). value_from v t) e, val_from t 1, ap (λ (n : ℕ). 2 ^ n) (length-take-le k y (omega (arith, g.size))))

late : (x y : List ℕ) (k : ℕ) → k ≤ 6 → Good x → Good y → Good (drop (suc k) x ++ take (suc k) y) → ⊥
late [] y k h gx gy g = omega (arith, gx.size)
late (x₀ ∷ x) y k h gx gy g =
    let m : k < length x = omega (arith, gx.size) in
    let b : ℕ = get_or x k 0 in
    let a : List ℕ = take k x in
    let c : List ℕ = drop (suc k) x in
    let q : List ℕ = take (suc k) y in
    let w : Good (b ∷ (c ++ q)) = subst (λ (t : List ℕ). Good (t ++ q)) (drop-cons x k 0 m) g in
    let ha : Bits a = bits_take k x gx.bits.1 in
    no_overlap a (c ++ q) x q ha w.bits.1 (bits_take (suc k) y gy.bits) (omega (arith, length-take k x)) (omega (arith, length-take (suc k) y))
    (omega (arith, w.size)) (good_rem (b ∷ (c ++ q)) w) (good_rem (x₀ ∷ x) gx)
    (ap (λ (p : ℕ). a ++ (p ∷ (c ++ q))) (sym w.prefix) ∙ sym (append_assoc a (b ∷ c) q) ∙ ap (λ (l : List ℕ). l ++ q) (sym (split_at x k 0 m)))
    (λ n. elim (dec_le 6 k) [
      | yes l ↦ omega (arith, pow_mono l, first_bits y k gy (omega arith))
      | no l ↦ absurd (let i : length a ≤ 5 = omega (arith, length-take k x) in omega (arith, val_lt a ha, pow_mono i))
    ])

-- ---- before a start: before the overlap stand the window's bits from its second to the block's first, behind it the block's last

early : (t y : List ℕ) (d : ℕ) → Bits t → length t + d ≡ 50 → 44 ≤ d → d < 50 → Good y → Good (t ++ take d y) → ⊥
early [] y d ht l h m gy g = omega arith
early (t₀ ∷ t) [] d ht l h m gy g = omega (arith, gy.size)
early (t₀ ∷ t) (y₀ ∷ y) d ht l h m gy g =
    let w : List ℕ = t ++ take d (y₀ ∷ y) in
    let q : List ℕ = drop d (y₀ ∷ y) in
    let i : length t ≤ 5 = omega arith in
    no_overlap t y w q ht.1 gy.bits.1 (bits_drop d (y₀ ∷ y) gy.bits) (omega arith) (omega (arith, length-drop d (y₀ ∷ y), gy.size))
    (omega (arith, gy.size)) (good_rem (y₀ ∷ y) gy) (good_rem (t₀ ∷ w) g)
    (ap (λ (b : ℕ). t ++ (b ∷ y)) (sym gy.prefix) ∙ ap (λ (l : List ℕ). t ++ l) (sym (take-append-drop d (y₀ ∷ y))) ∙ sym (append_assoc t (take d (y₀ ∷ y)) q))
    (λ n. absurd (omega (arith, val_lt t ht.1, pow_mono i)))

-- ---- every run

near : (x y : List ℕ) (d : ℕ) → Good x → Good y → 1 ≤ d → d < 50 → (d ≤ 7) ⊎ (44 ≤ d) → Good (drop d x ++ take d y) → ⊥
near x y zero gx gy p q c g = omega arith
near x y (suc k) gx gy p q (inl h) g = late x y k (omega arith) gx gy g
near x y (suc k) gx gy p q (inr h) g =
    early (drop (suc k) x) y (suc k) (bits_drop (suc k) x gx.bits) (omega (arith, length-drop (suc k) x, gx.size)) h q gy g

slip : (messages : List Message) (n d start : ℕ) → start ≡ 50 * n + d → 1 ≤ d → d < 50 → (d ≤ 7) ⊎ (44 ≤ d)
    → start + 50 ≤ length (sent messages) → IsRefused (window (sent messages) start)
slip messages n d start e p q c h =
    let s = seam messages n d start e p q h in
    refused (window (sent messages) start) (seam_size q s) (seam_bits s)
    (λ g. near s.one s.two d s.good_one s.good_two p q c (subst Good s.is g))

pub slips_refused : SlipsRefused
slips_refused messages zero start (before d p q e) h = absurd (omega arith)
slips_refused messages (suc n) start (before d p q e) h =
    slip messages n (50 - d) start (omega arith) (omega arith) (omega arith) (inr (omega arith)) (omega arith)
slips_refused messages n start (after d p q e) h = slip messages n d start e (omega arith) (omega arith) (inl (omega arith)) (omega arith)

pub near_refused : NearRefused
near_refused messages n start (before d p q e) h = slips_refused messages n start (before d (omega arith) (omega arith) e) h
near_refused messages n start (after d p q e) h = slips_refused messages n start (after d (omega arith) (omega arith) e) h

pub aligned : Aligned
aligned messages n start l m h r = go (ℕ_discrete start (50 * n)) (dec_le start (50 * n))
  where
    never : IsRefused (window (sent messages) start) → ⊥
    never e = refused_not_zero (eqb (prefix_in (window (sent messages) start)) 0) (sym r ∙ e)

    go : Dec (start ≡ 50 * n) → Dec (start ≤ 50 * n) → start ≡ 50 * n
    go (yes e) b = e
    go (no e) (yes b) = absurd (never (near_refused messages n start (before (50 * n - start) (omega arith) (omega arith) (omega arith)) h))
    go (no e) (no b) = absurd (never (near_refused messages n start (after (start - 50 * n) (omega arith) (omega arith) (omega arith)) h))
