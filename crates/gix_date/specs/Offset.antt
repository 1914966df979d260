-- Offsets from UTC: git's date-formats, `<time-zone-offset>`; ISO 8601, "Time shift".
use Rattle.std.specs.Prelude.{ℕ, ◌+◌, ◌-◌, ◌*◌, ◌==◌, Bool, ◌&&◌, List, length, drop, slice_index, slice_range, nat_le, ℤ, pos, neg_ℤ, Result, Ok, Err, if◌then◌else◌}
use Rattle.gix_date.specs.declared.date.error.DateError.{DateError}
use Rattle.gix_date.specs.declared.date.error.DateError.TheVariants.{OutOfRange}
use Rattle.gix_date.specs.Numerals.{number_of}

-- The seconds of some hours and minutes, ahead of UTC or behind it.
abbrev pub offset_seconds : (behind : Bool) (hours minutes : ℕ) → ℤ
offset_seconds behind hours minutes =
    if behind then neg_ℤ (pos (hours * 3600 + minutes * 60)) else pos (hours * 3600 + minutes * 60)

-- The seconds of some hours and minutes, ahead of UTC or behind it. It is out of range above 23
-- hours or above 59 minutes.
unfoldable pub offset_by : (behind : Bool) (hours minutes : ℕ) → Result ℤ DateError
offset_by behind hours minutes =
    if nat_le hours 23 && nat_le minutes 59 then Ok (offset_seconds behind hours minutes) else Err OutOfRange

-- The seconds of an offset such as `+0100` or `-01:00`.
unfoldable pub offset_of : List ℕ → Result ℤ DateError
offset_of text =
    offset_by (slice_index text 0 == 45) (number_of (slice_range text 1 3)) (number_of (drop (length text - 2) text))
