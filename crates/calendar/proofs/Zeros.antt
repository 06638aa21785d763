-- The date that stands where there is none is the default one: each of its fields is 0.
-- Assumes nothing.
use Rattle.std.proofs.Common.{◌≡◌, ℕ, ℤ, pos}
use Rattle.calendar.specs.declared.Date.{Date}
use Rattle.calendar.specs.Dates.{new_date}
use Rattle.calendar.specs.Given.{zero_date}

abbrev pub AllZero : Date → Type 0
AllZero d = (d.year ≡ 0) × ((d.month ≡ 0) × ((d.day ≡ 0) × ((d.hour ≡ 0) × ((d.minute ≡ 0) × (d.offset ≡ pos 0)))))

pub are_zeros : (d : Date) → AllZero d → d ≡ zero_date
are_zeros d (a, (b, (c, (e, (f, g))))) = fields a b c e f g
  where
    fields : {a b c e f : ℕ} {z : ℤ} → a ≡ 0 → b ≡ 0 → c ≡ 0 → e ≡ 0 → f ≡ 0 → z ≡ pos 0 → new_date a b c e f z ≡ zero_date
    fields a b c e f g = rw (a, b, c, e, f, g)
