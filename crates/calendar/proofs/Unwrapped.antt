-- What is there is the value that a definition has for it, where the definition has another for nothing.
-- Assumes nothing.
use Rattle.std.proofs.Common.{◌≡◌, Option, Some, unwrap_or, sym, ap, ◌∙◌}

pub unwrapped : {A : Type 0} (none : A) (r : Option A) (x y : A) → r ≡ Some x → unwrap_or r none ≡ y → x ≡ y
unwrapped none r x y e f = ap (λ o. unwrap_or o none) (sym e) ∙ f
