-- The first three bytes of a frame, compared at once.
-- Assumes nothing.
use Rattle.std.proofs.Common.{◌≡◌, ◌/◌, ℕ, Bool, true, false, not, List, [], ◌∷◌, length, take, get_or, refl, sym, ◌∙◌, arith, nat_eq}
use Rattle.std.specs.Cmp.Lexicographic.{same_text, other_text}
use lib.Pointwise.{pointwise}
use Rattle.polish.specs.Frame.{Fixed}
use Rattle.polish.proofs.Parts.{part}

abbrev bytes : List ℕ
bytes = 0x55 ∷ 0x55 ∷ 0x60 ∷ []

yes : (p : Bool) → not p ≡ false → true ≡ p
yes true e = refl
yes false e = e

no : (p : Bool) → not p ≡ true → false ≡ p
no false e = refl
no true e = e

module _ (frame : List ℕ) (size : length frame ≡ 12) {other : Bool} (is : other ≡ not (pointwise nat_eq (take 3 frame) bytes)) where
  start : take 3 frame ≡ get_or frame 0 0 ∷ get_or frame 1 0 ∷ get_or frame 2 0 ∷ []
  start = part 3 0 frame (omega arith)

  pub start_right : other ≡ false → get_or frame 3 0 / 32 ≡ 5 → Fixed frame
  start_right e fourth =
      let same : get_or frame 0 0 ∷ get_or frame 1 0 ∷ get_or frame 2 0 ∷ [] ≡ bytes = sym start ∙ same_text (take 3 frame) bytes (yes _ (sym is ∙ e)) in
      record { first = cc; second = cc; third = cc; fourth = fourth }

  pub start_wrong : other ≡ true → Fixed frame → ⊥
  start_wrong e f = other_text (take 3 frame) bytes (no _ (sym is ∙ e)) (start ∙ rw (f.first, f.second, f.third))
