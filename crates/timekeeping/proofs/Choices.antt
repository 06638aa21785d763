-- What is shown of each answer of a choice holds of the choice.
-- Assumes nothing.
use Rattle.std.proofs.Common.{◌≡◌, Bool, true, false, cond}
use Rattle.std.proofs.lemmas.Bool.{cond_both}

pub cond_elim : {X : Type 0} (P : X → Type 0) (c : Bool) {x y : X} → (c ≡ true → P x) → (c ≡ false → P y) → P (cond c x y)
cond_elim P c {x} {y} f g = cond_both c x y P f g
