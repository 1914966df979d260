-- Days of the calendar and times of a day: ISO 8601, "Calendar date" and "Time of day".
use Rattle.std.specs.Prelude.{ℕ, ◌+◌, ◌*◌, ◌&&◌, List, slice_range, nat_le, ℤ, pos, ◌+ℤ◌, ◌-ℤ◌, ◌*ℤ◌, Result, Ok, Err, if◌then◌else◌}
use Rattle.std.specs.Int.{is_in_range}
use Rattle.jiff_core.specs.Calendar.{days_in_month, days_from_civil}
use Rattle.gix_date.specs.declared.date.error.DateError.{DateError}
use Rattle.gix_date.specs.declared.date.error.DateError.TheVariants.{OutOfRange}
use Rattle.gix_date.specs.Numerals.{number_of}

-- The day number of a date, 0 for 1970-01-01, if the calendar has that date in the years 0 to 9999.
unfoldable pub day_number : (year month day : ℕ) → Result ℤ DateError
day_number year month day =
    if nat_le year 9999 && is_in_range 1 12 month && is_in_range 1 (days_in_month (pos year) month) day
    then Ok (days_from_civil (pos year) month day) else Err OutOfRange

-- The day with which a text begins, as `YYYY-MM-DD`.
unfoldable pub day_of : List ℕ → Result ℤ DateError
day_of text =
    day_number (number_of (slice_range text 0 4)) (number_of (slice_range text 5 7)) (number_of (slice_range text 8 10))

-- The second of the day at a time of day, if there is that time: no second 60, and no hour 24.
unfoldable pub second_of_day : (hour minute second : ℕ) → Result ℤ DateError
second_of_day hour minute second =
    if nat_le hour 23 && nat_le minute 59 && nat_le second 59
    then Ok (pos (hour * 3600 + minute * 60 + second)) else Err OutOfRange

-- The second of the day with which a text begins, as `HH:MM:SS`.
unfoldable pub clock_of : List ℕ → Result ℤ DateError
clock_of text =
    second_of_day (number_of (slice_range text 0 2)) (number_of (slice_range text 3 5)) (number_of (slice_range text 6 8))

-- The seconds since 1970-01-01 00:00:00 UTC at a second of a day, by a clock at an offset.
abbrev pub seconds_at : (day second offset : ℤ) → ℤ
seconds_at day second offset = day *ℤ pos 86400 +ℤ second -ℤ offset
