-- `1979-02-26 18:30:00`, `1979-02-26T18:30:00Z`, `1979-02-26 18:30:00 +0100`: git's date-formats, "ISO 8601".
use Rattle.std.specs.Prelude.{ℕ, ◌==◌, Bool, ◌&&◌, ◌||◌, List, [], length, take, drop, slice_index, codes, Some, None, Result, Ok, ℤ, pos, if◌then◌else◌}
use Rattle.gix_base.specs.declared.date.Time.{Time}
use Rattle.gix_date.specs.declared.date.error.DateError.{DateError}
use Rattle.gix_date.specs.Shape.{has_shape}
use Rattle.gix_date.specs.Civil.{day_of, clock_of, seconds_at}
use Rattle.gix_date.specs.Offset.{offset_of}
use Rattle.gix_date.specs.DateSteps.{result_and_then}
use Rattle.gix_date.specs.DateReading.{Reading}

-- Whether a text is a day and a time of day, with a `T` or a space between them.
abbrev pub is_day_and_clock : List ℕ → Bool
is_day_and_clock text =
    has_shape (codes "0000-00-00T00:00:00") text || has_shape (codes "0000-00-00 00:00:00") text

-- A text without a space at its beginning.
abbrev pub without_space : List ℕ → List ℕ
without_space text = if slice_index text 0 == 32 then drop 1 text else text

-- Whether a text says the offset of a clock: nothing, `Z`, or an offset, perhaps after one space.
unfoldable pub is_zone : List ℕ → Bool
is_zone text =
    has_shape [] text || has_shape (codes "Z") text
    || has_shape (codes "+0000") (without_space text) || has_shape (codes "+00:00") (without_space text)

-- The offset that such a text says: that of the moment for nothing, and 0 for `Z`.
unfoldable pub zone_of : Time → List ℕ → Result ℤ DateError
zone_of now text =
    if length text == 0 then Ok now.offset
    else (if length text == 1 then Ok (pos 0) else offset_of (without_space text))

-- The time of a day and a time of day, by a clock at an offset.
unfoldable pub civil_time : List ℕ → Time → Result Time DateError
civil_time text now =
    result_and_then (day_of text) (λ day.
    result_and_then (clock_of (drop 11 text)) (λ second.
    result_and_then (zone_of now (drop 19 text)) (λ offset.
    Ok (record { seconds = seconds_at day second offset; offset = offset }))))

-- How a day, a time of day and perhaps an offset are read.
unfoldable pub iso8601_date : List ℕ → Time → Reading
iso8601_date text now =
    if is_day_and_clock (take 19 text) && is_zone (drop 19 text) then Some (civil_time text now) else None
