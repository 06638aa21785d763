-- Two results that a contract allows for the same input are equal: words of at most three symbols differ in at most six, so their power sums tell them
-- apart.
-- Assumes nothing.
use Rattle.std.specs.Prelude.{Option, Some, None}
use mathlib.Core.List.{List}
use mathlib.Core.Path.{◌≡◌, refl, sym, ap, ◌∙◌}
use Prim.Native.Nat.{ℕ}
use native.Mathlib.Omega.{arith}
use Rattle.refusal.proofs.Determined.{Determined}
use Rattle.big_endian.specs.Digits.{digits}
use Rattle.big_endian.proofs.Digits.{length_digits}
use Rattle.field16.proofs.Digits.{symbols_digits, same_number}
use Rattle.field16.proofs.Distance.{weight_xors, same_word}
use Rattle.power_sums.specs.Sums.{six_sums}
use Rattle.power_sums.proofs.Lists.{six_at}
use Rattle.wrong_symbols.specs.Explained.{Mistakes, Explains}
use Rattle.wrong_symbols.proofs.explain.Reads as explain

same_mistakes : (s : List ℕ) (m n : ℕ) → Mistakes s m → Mistakes s n → m ≡ n
same_mistakes s m n p q =
    let u = digits 4 15 m in
    let v = digits 4 15 n in
    same_number 15 m n p.fits q.fits
    (same_word u v (length_digits 4 15 m) (length_digits 4 15 n) (symbols_digits 15 m) (symbols_digits 15 n)
    (omega (arith, weight_xors u v, p.few, q.few)) (six_at u v (p.sums ∙ sym q.sums)))

explained_once : (six : List ℕ) (x y : Option ℕ) → Explains six x → Explains six y → x ≡ y
explained_once six (Some m) (Some n) p q = ap Some (same_mistakes (six_sums six) m n p q)
explained_once six (Some m) None p q = absurd (q (digits 4 15 m) (length_digits 4 15 m) p.few p.sums)
explained_once six None (Some n) p q = absurd (p (digits 4 15 n) (length_digits 4 15 n) q.few q.sums)
explained_once six None None p q = refl

pub explain_determined : Determined explain.Post
explain_determined κs a x y s t p q = explained_once _ x y p q
