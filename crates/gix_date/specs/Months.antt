-- Months of the calendar: jiff's proleptic Gregorian one, years -9999 to 9999.
use Rattle.std.specs.Prelude.{ℕ, zero, suc, ◌+◌, ◌&&◌, min, ℤ, pos, neg_ℤ, ◌+ℤ◌, ◌-ℤ◌, int_le, unsigned_abs, Result, Ok, Err, if◌then◌else◌}
use Rattle.std.specs.Int.{int_div_euclid, int_rem_euclid}
use Rattle.jiff_core.specs.Calendar.{days_in_month, days_from_civil}
use Rattle.gix_date.specs.declared.date.error.DateError.{DateError}
use Rattle.gix_date.specs.declared.date.error.DateError.TheVariants.{OutOfRange}

-- The first day of a month. Months are counted from January of the year 0.
abbrev pub first_day : (month : ℤ) → ℤ
first_day month = days_from_civil (int_div_euclid month (pos 12)) (unsigned_abs (int_rem_euclid month (pos 12)) + 1) 1

-- The last of some months, from January of the year -9999 on, that begins on a day or before it. If
-- none does, it is that January.
unfoldable pub month_among : (count : ℕ) (day : ℤ) → ℤ
month_among zero day = neg_ℤ (pos 119_988)
month_among (suc n) day =
    if int_le (first_day (pos (suc n) -ℤ pos 119_988)) day then pos (suc n) -ℤ pos 119_988 else month_among n day

-- The month that has a day, if the day is in the years -9999 to 9999.
abbrev pub month_of : (day : ℤ) → ℤ
month_of day = month_among 239_987 day

-- The place of a day in its month, from 1.
abbrev pub day_of_month : (day : ℤ) → ℕ
day_of_month day = unsigned_abs (day -ℤ first_day (month_of day)) + 1

-- The day number at a place of a month of the years -9999 to 9999, or of its last day if it does
-- not have this place.
unfoldable pub day_in : (month : ℤ) (place : ℕ) → Result ℤ DateError
day_in month place =
    let year = int_div_euclid month (pos 12) in
    let month_of_year = unsigned_abs (int_rem_euclid month (pos 12)) + 1 in
    if int_le (neg_ℤ (pos 9999)) year && int_le year (pos 9999)
    then Ok (days_from_civil year month_of_year (min place (days_in_month year month_of_year))) else Err OutOfRange

-- The day a number of months before a day: at the same place of its month, or the last day of its
-- month if that one does not have this place. It is out of range if one of the days is outside the
-- years -9999 to 9999.
unfoldable pub months_before : (day : ℤ) (months : ℕ) → Result ℤ DateError
months_before day months =
    if int_le (neg_ℤ (pos 4_371_587)) day && int_le day (pos 2_932_896)
    then day_in (month_of day +ℤ neg_ℤ (pos months)) (day_of_month day) else Err OutOfRange
