-- The contract of each public function allows one result for each input: stated of the check's own reading of the clause.
-- Assumes nothing.
use mathlib.Core.Path.{sym, ◌∙◌}
use Rattle.refusal.proofs.Determined.{Determined}
use Rattle.calendar.proofs.Zeros.{are_zeros}
use Rattle.calendar.proofs.usable.Reads as usable
use Rattle.calendar.proofs.date_of_record.Reads as date_of_record
use Rattle.calendar.proofs.record_of_date.Reads as record_of_date
use Rattle.calendar.proofs.next_minute.Reads as next_minute
use Rattle.calendar.proofs.Date.new.Reads as new
use Rattle.calendar.proofs.DateDefault.default.Reads as default
use Rattle.calendar.proofs.Date.may_be_first.Reads as may_be_first

pub usable_determined : Determined usable.Post
usable_determined κs a x y s t p q = p ∙ sym q

pub date_of_record_determined : Determined date_of_record.Post
date_of_record_determined κs a x y s t p q = p ∙ sym q

pub record_of_date_determined : Determined record_of_date.Post
record_of_date_determined κs a x y s t p q = p ∙ sym q

pub next_minute_determined : Determined next_minute.Post
next_minute_determined κs a x y s t p q = p ∙ sym q

pub new_determined : Determined new.Post
new_determined κs a x y s t p q = p ∙ sym q

pub default_determined : Determined default.Post
default_determined κs a x y s t p q = are_zeros x p ∙ sym (are_zeros y q)

pub may_be_first_determined : Determined may_be_first.Post
may_be_first_determined κs a x y s t p q = p ∙ sym q
