-- What it means that a contract leaves no choice, said of a clause as the check reads it; and that the refusal's number leaves none.
-- Assumes nothing.
use mathlib.Core.Path.{◌≡◌, sym, ◌∙◌}
use Rattle.refusal.proofs.U8FromRefusal.from.Reads as from

-- two results that a clause P allows for the same lifetimes and arguments, whatever the exits, are equal
abbrev pub Determined : {K : Type 0} {A R S : K → Type 0} → ((κs : K) → A κs → R κs → S κs → Type 0) → Type 0
Determined {K} {A} {R} {S} P = (κs : K) (a : A κs) (x y : R κs) (s t : S κs) → P κs a x s → P κs a y t → x ≡ y

-- and what v reads off the lent parameters at exit is the same too
abbrev pub Leaves : {K : Type 0} {A R S : K → Type 0} {X : Type 0} → ((κs : K) → A κs → R κs → S κs → Type 0) → ((κs : K) → S κs → X) → Type 0
Leaves {K} {A} {R} {S} P v = (κs : K) (a : A κs) (x y : R κs) (s t : S κs) → P κs a x s → P κs a y t → v κs s ≡ v κs t

pub number_determined : Determined from.Post
number_determined κs a x y s t p q = p ∙ sym q
