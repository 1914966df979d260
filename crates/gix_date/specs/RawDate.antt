-- `1234567890 +0200`: git's date-formats, "Git internal format"; git log's `--date=raw`.
use Rattle.std.specs.Prelude.{ℕ, ◌-◌, ◌&&◌, List, length, take, drop, codes, Some, None, Result, if◌then◌else◌}
use Rattle.gix_base.specs.declared.date.Time.{Time}
use Rattle.gix_date.specs.declared.date.error.DateError.{DateError}
use Rattle.gix_date.specs.Shape.{has_shape}
use Rattle.gix_date.specs.Numerals.{is_integer, integer_of}
use Rattle.gix_date.specs.Offset.{offset_of}
use Rattle.gix_date.specs.DateSteps.{result_and_then}
use Rattle.gix_date.specs.DateReading.{Reading, time_at}

-- The time of the seconds and the offset that two texts have.
unfoldable pub raw_time : (seconds zone : List ℕ) → Result Time DateError
raw_time seconds zone = result_and_then (offset_of zone) (λ offset. time_at (integer_of seconds) offset)

-- How seconds, a space and an offset are read: the last six bytes are the space and the offset.
unfoldable pub raw_date : List ℕ → Reading
raw_date text =
    let front = take (length text - 6) text in
    let back = drop (length text - 6) text in
    if is_integer front && has_shape (codes " +0000") back then Some (raw_time front (drop 1 back)) else None
