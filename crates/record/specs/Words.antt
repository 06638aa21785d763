-- Reading and writing the word of a record (01, "The time record", and "Numbers given when something is refused"; 02, No. 3). A word
-- is written alike in both editions.
-- Assumes nothing.
use Rattle.std.specs.Prelude.{ℕ, cond, ◌&&◌, eqb, Result, Ok, Err}
use Rattle.refusal.specs.declared.Refusal.{Refusal}
use Rattle.refusal.specs.declared.Refusal.TheVariants.{NotARecord, OutOfRange}
use Rattle.record.specs.declared.Edition.{Edition}
use Rattle.record.specs.declared.Record.{Record}
use Rattle.record.specs.Fields.{flag_of, fields_of, word_of}
use Rattle.record.specs.Editions.{is_filler}
use Rattle.record.specs.Ranges.{in_range}

-- a code that is not 0 gets 5, then a filler 5, then a set first bit 6, as any field out of range
unfoldable pub read_of : Edition → ℕ → ℕ → Result Record Refusal
read_of edition code word =
    cond (eqb code 0)
    (cond (is_filler edition word) (Err NotARecord)
    (cond (eqb (flag_of word) 0 && in_range (fields_of word)) (Ok (fields_of word)) (Err OutOfRange)))
    (Err NotARecord)

-- a field out of range gets 6
unfoldable pub written_of : Record → Result ℕ Refusal
written_of r = cond (in_range r) (Ok (word_of r)) (Err OutOfRange)
