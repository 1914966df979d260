-- How a form reads a text.
use Rattle.std.specs.Prelude.{◌-◌, ◌^◌, ◌&&◌, Option, Some, None, Result, Ok, Err, ℤ, pos, neg_ℤ, int_le, if◌then◌else◌}
use Rattle.gix_base.specs.declared.date.Time.{Time}
use Rattle.gix_date.specs.declared.date.error.DateError.{DateError}
use Rattle.gix_date.specs.declared.date.error.DateError.TheVariants.{OutOfRange}

-- How a form reads a text: `None` if the text does not have its shape, and otherwise a time or that
-- it is out of range.
abbrev pub Reading : Type 0
Reading = Option (Result Time DateError)

-- The time of some seconds at an offset, if an `i64` holds the seconds.
abbrev pub time_at : (seconds offset : ℤ) → Result Time DateError
time_at seconds offset =
    if int_le (neg_ℤ (pos (2 ^ 63))) seconds && int_le seconds (pos (2 ^ 63 - 1))
    then Ok (record { seconds = seconds; offset = offset }) else Err OutOfRange

-- The time of the seconds of a checked sum, at an offset.
abbrev pub time_if : (seconds : Option ℤ) (offset : ℤ) → Result Time DateError
time_if None offset = Err OutOfRange
time_if (Some seconds) offset = Ok (record { seconds = seconds; offset = offset })
