-- The contract of each public function allows one result for each input: stated of the check's own reading of the clause.
-- Assumes nothing.
use mathlib.Core.Path.{sym, ◌∙◌}
use Rattle.refusal.proofs.Determined.{Determined}
use Rattle.record.proofs.Zeros.{are_zeros}
use Rattle.record.proofs.EditionTryFromU16.try_from.Reads as try_from
use Rattle.record.proofs.read_record.Reads as read_record
use Rattle.record.proofs.write_record.Reads as write_record
use Rattle.record.proofs.in_range.Reads as in_range
use Rattle.record.proofs.is_filler.Reads as is_filler
use Rattle.record.proofs.time_in_range.Reads as time_in_range
use Rattle.record.proofs.within.Reads as within
use Rattle.record.proofs.RecordDefault.default.Reads as default

pub edition_of_determined : Determined try_from.Post
edition_of_determined κs a x y s t p q = p ∙ sym q

pub read_record_determined : Determined read_record.Post
read_record_determined κs a x y s t p q = p ∙ sym q

pub is_filler_determined : Determined is_filler.Post
is_filler_determined κs a x y s t p q = p ∙ sym q

pub write_record_determined : Determined write_record.Post
write_record_determined κs a x y s t p q = p ∙ sym q

pub in_range_determined : Determined in_range.Post
in_range_determined κs a x y s t p q = p ∙ sym q

pub time_in_range_determined : Determined time_in_range.Post
time_in_range_determined κs a x y s t p q = p ∙ sym q

pub within_determined : Determined within.Post
within_determined κs a x y s t p q = p ∙ sym q

pub default_determined : Determined default.Post
default_determined κs a x y s t p q = are_zeros x p ∙ sym (are_zeros y q)
