-- The ranges of a record's fields, stated once (01, "The time record").
-- Assumes nothing.
use Rattle.std.specs.Prelude.{ℕ, Bool, ◌&&◌, leb, ℤ, pos, negsuc}
use Rattle.std.specs.Int.Signed.{le_z}
use Rattle.record.specs.declared.Record.{Record}

abbrev pub within : ℕ → ℕ → ℕ → Bool
within low n high = leb low n && leb n high

-- -32 to 31 half hours
unfoldable pub offset_in_range : ℤ → Bool
offset_in_range z = le_z (negsuc 31) z && le_z z (pos 31)

-- hour 0 to 23, minute 0 to 59
unfoldable pub time_in_range : ℕ → ℕ → ℤ → Bool
time_in_range hour minute offset = leb hour 23 && (leb minute 59 && offset_in_range offset)

-- leap code 0 to 3, start day 1 (Monday) to 7: the kind of the year
unfoldable pub kind_in_range : ℕ → ℕ → Bool
kind_in_range leap start_day_of = leb leap 3 && within 1 start_day_of 7

-- week 1 to 53, weekday 1 (Monday) to 7
unfoldable pub day_in_range : ℕ → ℕ → Bool
day_in_range week weekday = within 1 week 53 && within 1 weekday 7

unfoldable pub in_range : Record → Bool
in_range r = kind_in_range r.leap r.start_day && (day_in_range r.week r.weekday && time_in_range r.hour r.minute r.offset)
