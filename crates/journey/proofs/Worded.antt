-- A record in range has a word; the record of a date is usable, and the block of a usable record is a usable time block.
-- Assumes nothing.
use Prim.Native.Nat.{◌^◌, ◌<◌}
use native.Mathlib.Omega.{arith}
use mathlib.Core.Path.{◌≡◌}
use mathlib.Core.Bool.{true}
use Rattle.std.proofs.Common.{Ok}
use Rattle.block.specs.Read.{read_of}
use Rattle.block.proofs.RoundTrip.{read_back}
use Rattle.record.specs.declared.Edition.{Edition}
use Rattle.record.specs.declared.Record.{Record}
use Rattle.record.specs.Fields.{word_of}
use Rattle.record.specs.Ranges.{in_range}
use Rattle.record.specs.Words.{written_of}
use Rattle.record.proofs.Offset.{six_fits}
use Rattle.record.proofs.Bounds.{Bounds, bounds}
use Rattle.record.proofs.RoundTrip.{written_reads}
use Rattle.calendar.specs.declared.Date.{Date}
use Rattle.calendar.specs.Dates.{record_of}
use Rattle.calendar.proofs.Answers.{Usable, usable_is, record_given}
use Rattle.calendar.proofs.RoundTrip.{recorded_usable}
use Rattle.timekeeping.specs.Times.{usable_in}
use Rattle.journey.specs.Journey.{time_block}

module _ (r : Record) (h : in_range r ≡ true) where
  pub has_word : written_of r ≡ Ok (word_of r)
  unfolding written_of
  has_word = rw h

  pub word_fits : word_of r < 2 ^ 32
  unfolding word_of
  word_fits = let b : Bounds r = bounds r h in omega (arith, six_fits r.offset b.time.offset_in)

module _ (edition : Edition) where
  pub date_usable : (d : Date) (r : Record) → record_of edition d ≡ Ok r → Usable edition r
  date_usable d r e = let g = record_given edition d r e in rw g.1 at (recorded_usable edition d g.0)

  pub block_usable : (r : Record) → Usable edition r → usable_in edition (read_of (time_block r)) ≡ Ok r
  unfolding usable_in
  block_usable r u =
      let h = u.in_range in
      rw (read_back 0 (word_of r) (omega arith) (word_fits r h), written_reads edition r (word_of r) (has_word r h)) (usable_is edition r u)
