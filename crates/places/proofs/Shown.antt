-- Each place computes from the definitions.
-- Assumes nothing.
use mathlib.Core.Path.{refl}
use Rattle.block.specs.Bits.{bits_of, value_from}
use Rattle.block.specs.Block.{block_of, body_of}
use Rattle.block.specs.Division.{remainder_from}
use Rattle.block.specs.Read as block
use Rattle.block.proofs.RoundTrip.{written_good}
use Rattle.record.specs.Editions.{is_filler}
use Rattle.record.specs.Fields.{offset_of, fields_of}
use Rattle.record.specs.Ranges.{in_range, kind_in_range, day_in_range, time_in_range, offset_in_range}
use Rattle.record.specs.Words as words
use Rattle.calendar.specs.LeapCodes.{leap_code, says_leap}
use Rattle.calendar.specs.Years.{leap_year, days_of_years, start_day_of, year_from}
use Rattle.calendar.specs.Days.{sum_of, month_from}
use Rattle.calendar.specs.Weeks.{weeks_of, year_around}
use Rattle.calendar.specs.Dates.{usable_of, date_in, date_after, date_of, date_in_range, coded_year, record_at, record_of}
use Rattle.calendar.specs.NextMinute.{next_after, next_minute_of}
use Rattle.places.specs.Places.{Places}

pub places : Places
unfolding bits_of value_from remainder_from block_of body_of block.read_of
    words.read_of is_filler fields_of offset_of in_range kind_in_range day_in_range time_in_range offset_in_range
    leap_code says_leap leap_year days_of_years start_day_of year_from sum_of month_from weeks_of year_around
    usable_of date_in date_after date_of date_in_range coded_year record_at record_of
    next_after next_minute_of
places =
    record {
      empty = (refl, written_good 0 0, refl);
      word_one = refl;
      word_two = refl;
      word_three = refl;
      all_zeros = refl;
      last_changed = refl;
      new_year = refl;
      ahead = refl;
      behind = refl;
      minute_sixty = refl;
      filler = refl;
      last_sunday = refl;
      first_monday = refl;
      no_week_53 = refl;
      week_53 = refl;
      other_year = refl;
      six_zeros = refl;
      first_bit = refl;
    }
