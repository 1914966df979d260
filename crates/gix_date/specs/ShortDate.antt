-- `1979-02-26`: git log's `--date=short`; ISO 8601, "Calendar date".
use Rattle.std.specs.Prelude.{ℕ, List, codes, Some, None, Result, Ok, pos, ◌*ℤ◌, if◌then◌else◌}
use Rattle.gix_base.specs.declared.date.Time.{Time}
use Rattle.gix_date.specs.declared.date.error.DateError.{DateError}
use Rattle.gix_date.specs.Shape.{has_shape}
use Rattle.gix_date.specs.Civil.{day_of}
use Rattle.gix_date.specs.DateSteps.{result_and_then}
use Rattle.gix_date.specs.DateReading.{Reading}

-- The midnight that begins a day, in UTC.
unfoldable pub midnight_of : List ℕ → Result Time DateError
midnight_of text = result_and_then (day_of text) (λ day. Ok (record { seconds = day *ℤ pos 86400; offset = pos 0 }))

-- How a day alone is read.
unfoldable pub short_date : List ℕ → Reading
short_date text = if has_shape (codes "0000-00-00") text then Some (midnight_of text) else None
