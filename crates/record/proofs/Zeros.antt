-- The record that stands where there is none is the default one: each of its fields is 0.
-- Assumes nothing.
use Rattle.std.proofs.Common.{◌≡◌, ℕ, ℤ, pos}
use Rattle.record.specs.declared.Record.{Record}
use Rattle.record.specs.Given.{zero_record}

abbrev pub AllZero : Record → Type 0
AllZero r =
    (r.leap ≡ 0) × ((r.start_day ≡ 0) × ((r.week ≡ 0) × ((r.weekday ≡ 0) × ((r.hour ≡ 0) × ((r.minute ≡ 0) × (r.offset ≡ pos 0))))))

pub are_zeros : (r : Record) → AllZero r → r ≡ zero_record
are_zeros r (a, (b, (c, (d, (e, (f, g)))))) = fields a b c d e f g
  where
    fields : {a b c d e f : ℕ} {z : ℤ} → a ≡ 0 → b ≡ 0 → c ≡ 0 → d ≡ 0 → e ≡ 0 → f ≡ 0 → z ≡ pos 0
        → ◌≡◌ {A = Record} (record { leap = a; start_day = b; week = c; weekday = d; hour = e; minute = f; offset = z }) zero_record
    fields a b c d e f g = rw (a, b, c, d, e, f, g)
