-- Two results that a contract allows for the same text are equal.
-- Assumes nothing.
use mathlib.Core.Path.{sym, ◌∙◌}
use Rattle.refusal.proofs.Determined.{Determined}
use Rattle.arguments.proofs.number_of.Reads as number_of
use Rattle.arguments.proofs.edition_of.Reads as edition_of
use Rattle.arguments.proofs.day_of.Reads as day_of
use Rattle.arguments.proofs.time_of.Reads as time_of
use Rattle.arguments.proofs.offset_of.Reads as offset_of

pub number_of_determined : Determined number_of.Post
number_of_determined κs a x y s t p q = p ∙ sym q

pub edition_of_determined : Determined edition_of.Post
edition_of_determined κs a x y s t p q = p ∙ sym q

pub day_of_determined : Determined day_of.Post
day_of_determined κs a x y s t p q = p ∙ sym q

pub time_of_determined : Determined time_of.Post
time_of_determined κs a x y s t p q = p ∙ sym q

pub offset_of_determined : Determined offset_of.Post
offset_of_determined κs a x y s t p q = p ∙ sym q
