-- Two results that a contract allows for the same input are equal.
-- Assumes nothing.
use mathlib.Core.Path.{sym, ◌∙◌}
use Rattle.refusal.proofs.Determined.{Determined}
use Rattle.power_sums.proofs.sums.Reads as sums
use Rattle.power_sums.proofs.five.Reads as five
use Rattle.power_sums.proofs.four.Reads as four
use Rattle.power_sums.proofs.third.Reads as third
use Rattle.power_sums.proofs.fit.Reads as fit

pub sums_determined : Determined sums.Post
sums_determined κs a x y s t p q = p ∙ sym q

pub five_determined : Determined five.Post
five_determined κs a x y s t p q = p ∙ sym q

pub four_determined : Determined four.Post
four_determined κs a x y s t p q = p ∙ sym q

pub third_determined : Determined third.Post
third_determined κs a x y s t p q = p ∙ sym q

pub fit_determined : Determined fit.Post
fit_determined κs a x y s t p q = p ∙ sym q
