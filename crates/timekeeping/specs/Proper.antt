-- When a time is proper: it is none, or holds at an age of 0 to 119 a record that is usable in the edition of the call (01,
-- "Hunting, trying, locked"; 02, No. 3 and No. 5).
-- Assumes nothing.
use Rattle.std.specs.Prelude.{Bool, false, cond, ◌&&◌, eqb, leb, ltb, ℤ, pos, negsuc, is_ok}
use Rattle.record.specs.declared.Edition.{Edition}
use Rattle.record.specs.declared.Record.{Record}
use Rattle.calendar.specs.Dates.{usable_of}
use Rattle.timekeeping.specs.declared.Time.{Time}
use Rattle.timekeeping.specs.Times.{none, confirmed}

-- no time: its kind, every field of its record and its age are 0
abbrev pub is_zero : ℤ → Bool
is_zero (pos n) = eqb n 0
is_zero (negsuc n) = false

unfoldable pub is_zero_record : Record → Bool
is_zero_record r =
    eqb r.leap 0 && (eqb r.start_day 0 && (eqb r.week 0 && (eqb r.weekday 0 && (eqb r.hour 0 && (eqb r.minute 0 && is_zero r.offset)))))

unfoldable pub is_no_time : Time → Bool
is_no_time t = eqb t.kind none && (eqb t.age 0 && is_zero_record t.held)

-- time is none, or holds a usable record at an age of 0 to 119
unfoldable pub time_proper : Edition → Time → Bool
time_proper edition t = cond (eqb t.kind none) (is_no_time t) (leb t.kind confirmed && (ltb t.age 120 && is_ok (usable_of edition t.held)))
