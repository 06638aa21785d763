-- A word of code 0 that is no filler and has its first bit clear is read by its fields alone.
-- Assumes nothing.
use Rattle.std.specs.Prelude.{Ok, Err}
use Prim.Native.Nat.{ℕ}
use mathlib.Core.Path.{◌≡◌}
use mathlib.Core.Bool.{false, cond}
use borrow.Author.Tests.{eq-eqb}
use Rattle.refusal.specs.declared.Refusal.TheVariants.{OutOfRange}
use Rattle.record.specs.declared.Edition.{Edition}
use Rattle.record.specs.Fields.{flag_of, fields_of}
use Rattle.record.specs.Editions.{is_filler}
use Rattle.record.specs.Ranges.{in_range}
use Rattle.record.specs.Words.{read_of}

pub read_fields : (edition : Edition) (code word : ℕ) → code ≡ 0 → is_filler edition word ≡ false → flag_of word ≡ 0
    → read_of edition code word ≡ cond (in_range (fields_of word)) (Ok (fields_of word)) (Err OutOfRange)
unfolding read_of
read_fields edition code word zero none clear = rw (eq-eqb code 0 zero, none, eq-eqb (flag_of word) 0 clear)
