-- The time: held, aged, confirmed and forgotten (01, "Hunting, trying, locked"; 02, No. 5), with records read in an edition (No. 3).
-- Assumes nothing.
use Rattle.std.specs.Prelude.{ℕ, ◌+◌, ◌/◌, ◌%◌, Bool, false, cond, ◌&&◌, eqb, leb, Result, Ok, Err}
use Rattle.refusal.specs.declared.Refusal.{Refusal}
use Rattle.block.specs.declared.Body.{Body}
use Rattle.block.specs.declared.Refused.{Refused}
use Rattle.record.specs.declared.Edition.{Edition}
use Rattle.record.specs.declared.Record.{Record}
use Rattle.record.specs.Given.{zero_record}
use Rattle.record.specs.Ranges.{within}
use Rattle.record.specs.Words as words
use Rattle.calendar.specs.Dates.{usable_of}
use Rattle.calendar.specs.MinutesLater.{minutes_later}
use Rattle.timekeeping.specs.declared.Time.{Time}

-- the numbers of the kinds of time
abbrev pub none : ℕ
none = 0

abbrev pub candidate : ℕ
candidate = 1

abbrev pub confirmed : ℕ
confirmed = 2

-- a time that holds a record at an age in blocks, and no time, whose places are 0
abbrev pub time_of : ℕ → Record → ℕ → Time
time_of kind held age = record { kind = kind; held = held; age = age }

abbrev pub no_time : Time
no_time = time_of none zero_record 0

-- a usable time block is a good time block whose fields are in range and whose year has the week: its record
abbrev pub then_usable : Edition → Result Record Refusal → Result Record Refusal
then_usable edition (Ok r) = usable_of edition r
then_usable edition (Err why) = Err why

unfoldable pub usable_in : Edition → Result Body Refused → Result Record Refusal
usable_in edition (Ok body) = then_usable edition (words.read_of edition body.code body.word)
usable_in edition (Err refused) = Err refused.refusal

-- minute, hour, weekday, week, start day and leap code are the same; the offset is not asked
unfoldable pub same_minute : Record → Record → Bool
same_minute n r =
    eqb n.minute r.minute
    && (eqb n.hour r.hour
    && (eqb n.weekday r.weekday && (eqb n.week r.week && (eqb n.start_day r.start_day && eqb n.leap r.leap))))

abbrev pub is_minute : Result Record Refusal → Record → Bool
is_minute (Ok n) r = same_minute n r
is_minute (Err why) r = false

-- the record's minute is so many minutes after the held record's, the offset aside; a minute that does not exist is never followed
unfoldable pub follows : Edition → ℕ → Record → Record → Bool
follows edition minutes held r = is_minute (minutes_later edition minutes held) r

-- a minute is thirty blocks: at age 30, 60, 90 or 120 the record confirms the held one if it is 1, 2, 3 or 4 minutes later
unfoldable pub confirms : Edition → ℕ → Record → Record → Bool
confirms edition age held r = within 30 age 120 && (eqb (age % 30) 0 && follows edition (age / 30) held r)

-- A block is offered, and the age grows by 1. A usable block makes the time confirmed where it confirms the held record, and a
-- candidate otherwise, also with nothing held. Both hold the new record at age 0
unfoldable pub renewed_by : Edition → Time → Record → Time
renewed_by edition t r = time_of (cond (eqb t.kind none) candidate (cond (confirms edition (t.age + 1) t.held r) confirmed candidate)) r 0

-- a block that is not usable lets the time go at age 120: three missed minutes are outlasted, a fourth is not
unfoldable pub aged_by : Time → Time
aged_by t = cond (eqb t.kind none) no_time (cond (leb 120 (t.age + 1)) no_time (time_of t.kind t.held (t.age + 1)))

unfoldable pub offered_to : Edition → Time → Result Record Refusal → Time
offered_to edition t (Ok r) = renewed_by edition t r
offered_to edition t (Err why) = aged_by t
