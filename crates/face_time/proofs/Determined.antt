-- Two results that a contract of this face allows for the same input are equal.
-- Assumes nothing.
use mathlib.Core.Path.{sym, ◌∙◌}
use Rattle.refusal.proofs.Determined.{Determined}
use Rattle.face_time.proofs.DateAnswerFromResultDateRefusal.from.Reads as told_date
use Rattle.face_time.proofs.RecordAnswerFromResultRecordRefusal.from.Reads as told_record
use Rattle.face_time.proofs.WordAnswerFromResultU32Refusal.from.Reads as told_word
use Rattle.face_time.proofs.lw_date_of_record.Reads as date_of_record
use Rattle.face_time.proofs.lw_next_minute.Reads as next_minute
use Rattle.face_time.proofs.lw_read_record.Reads as read_record
use Rattle.face_time.proofs.lw_record_of_date.Reads as record_of_date
use Rattle.face_time.proofs.lw_write_record.Reads as write_record

pub read_record_determined : Determined read_record.Post
read_record_determined κs a x y s t p q = p ∙ sym q

pub write_record_determined : Determined write_record.Post
write_record_determined κs a x y s t p q = p ∙ sym q

pub date_of_record_determined : Determined date_of_record.Post
date_of_record_determined κs a x y s t p q = p ∙ sym q

pub record_of_date_determined : Determined record_of_date.Post
record_of_date_determined κs a x y s t p q = p ∙ sym q

pub next_minute_determined : Determined next_minute.Post
next_minute_determined κs a x y s t p q = p ∙ sym q

pub told_date_determined : Determined told_date.Post
told_date_determined κs a x y s t p q = p ∙ sym q

pub told_record_determined : Determined told_record.Post
told_record_determined κs a x y s t p q = p ∙ sym q

pub told_word_determined : Determined told_word.Post
told_word_determined κs a x y s t p q = p ∙ sym q
