-- Two results that a contract allows for the same input are equal: a number is its digits, and a word has one codeword near.
-- Assumes nothing.
use Rattle.std.specs.Prelude.{Option, Some, None}
use mathlib.Core.List.{List}
use mathlib.Core.Path.{◌≡◌, refl, sym, ap, ◌∙◌}
use Prim.Native.Nat.{ℕ}
use Rattle.refusal.proofs.Determined.{Determined}
use Rattle.big_endian.specs.Digits.{digits}
use Rattle.field16.proofs.Digits.{same_number}
use Rattle.symbols.specs.Mending.{Mends}
use Rattle.symbols.proofs.Unique.{unique}
use Rattle.symbols.proofs.checks.Reads as checks
use Rattle.symbols.proofs.mend.Reads as mend

pub checks_determined : Determined checks.Post
checks_determined κs a x y s t p q = same_number 6 x y p.small q.small (p.are ∙ sym q.are)

mends_once : (word : List ℕ) (x y : Option ℕ) → Mends word x → Mends word y → x ≡ y
mends_once word (Some m) (Some n) p q = ap Some (same_number 15 m n p.0 q.0 (unique word (digits 4 15 m) (digits 4 15 n) p.1 q.1))
mends_once word (Some m) None p q = absurd (q (digits 4 15 m) p.1)
mends_once word None (Some n) p q = absurd (p (digits 4 15 n) q.1)
mends_once word None None p q = refl

pub mend_determined : Determined mend.Post
mend_determined κs a x y s t p q = mends_once _ x y p q
