-- A block does confirm one minute later thirty blocks after the held one, and two minutes later after sixty; not one block sooner
-- or later, and not one minute later after sixty; computed from the definitions.
-- Assumes nothing.
use Prim.Native.Nat.{ℕ, zero, suc, ◌+◌, ◌*◌}
use mathlib.Core.Path.{◌≡◌, refl}
use mathlib.Core.List.{List, [], ◌++◌}
use Rattle.block.specs.Bits.{value_from}
use Rattle.block.specs.Division.{remainder_from}
use Rattle.block.specs.Block.{block_of}
use Rattle.block.specs.Read.{read_of}
use Rattle.record.specs.declared.Edition.{Edition}
use Rattle.record.specs.declared.Edition.TheVariants.{Of1984, Of1982}
use Rattle.record.specs.Editions.{is_filler, filler}
use Rattle.record.specs.Ranges.{offset_in_range, time_in_range, kind_in_range, day_in_range, in_range}
use Rattle.record.specs.Fields.{offset_of, fields_of}
use Rattle.record.specs.Words as words
use Rattle.calendar.specs.LeapCodes.{says_leap}
use Rattle.calendar.specs.Weeks.{weeks_of}
use Rattle.calendar.specs.Dates.{usable_of}
use Rattle.calendar.specs.NextMinute.{go_on, next_after, next_minute_of}
use Rattle.calendar.specs.MinutesLater.{minutes_later}
use Rattle.timekeeping.specs.Times.{candidate, confirmed, usable_in, same_minute, follows, confirms, renewed_by, aged_by, offered_to}
use Rattle.locking.specs.Modes.{hunted, tried, held_on, judged_by}
use Rattle.receiver.specs.States.{fresh_of}
use Rattle.receiver.specs.Steps.{judged_step, step_of}
use Rattle.receiver.specs.History.{after_from, after}

abbrev blocks : ℕ → ℕ → List ℕ
blocks word zero = []
blocks word (suc n) = block_of 0 word ++ blocks word n

-- the time after three blocks for lock, a 1 January, 00:00, n fillers, and the block of so many minutes past
abbrev time_after : Edition → ℕ → ℕ → ℕ
time_after edition n minute =
    (after edition (blocks (filler edition) 3 ++ (block_of 0 1276510208 ++ (blocks (filler edition) n ++ block_of 0 (1276510208 + 64 * minute))))).time

pub confirming :
    (edition : Edition) →
    (time_after edition 28 1 ≡ candidate)
    × (time_after edition 29 1 ≡ confirmed)
    × (time_after edition 30 1 ≡ candidate)
    × (time_after edition 59 1 ≡ candidate)
    × (time_after edition 59 2 ≡ confirmed)
unfolding value_from remainder_from block_of read_of
    is_filler offset_of fields_of offset_in_range time_in_range kind_in_range day_in_range in_range words.read_of
    says_leap weeks_of usable_of go_on next_after next_minute_of minutes_later
    usable_in same_minute follows confirms renewed_by aged_by offered_to
    hunted tried held_on judged_by
    fresh_of judged_step step_of after_from
confirming Of1984 = (refl, refl, refl, refl, refl)
confirming Of1982 = (refl, refl, refl, refl, refl)
