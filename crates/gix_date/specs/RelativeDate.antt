-- The moment so far back: `2 weeks ago`.
use Rattle.std.specs.Prelude.{ℕ, ◌==◌, List, option_map, Result, Ok, ℤ, pos, ◌+ℤ◌, ◌-ℤ◌, if◌then◌else◌}
use Rattle.std.specs.Int.{int_div_euclid, int_rem_euclid}
use Rattle.gix_base.specs.declared.date.Time.{Time}
use Rattle.gix_date.specs.declared.date.error.DateError.{DateError}
use Rattle.gix_date.specs.declared.date.ago.Ago.{Ago}
use Rattle.gix_date.specs.Civil.{seconds_at}
use Rattle.gix_date.specs.DateSteps.{result_and_then}
use Rattle.gix_date.specs.DateReading.{Reading, time_at}
use Rattle.gix_date.specs.Months.{months_before}
use Rattle.gix_date.specs.Ago.{ago_of}

-- The seconds a number of months before a moment, by the calendar and at the time of day of its own
-- clock.
unfoldable pub seconds_before : Time → (months : ℕ) → Result ℤ DateError
seconds_before now months =
    let local = now.seconds +ℤ now.offset in
    if months == 0 then Ok now.seconds
    else (result_and_then (months_before (int_div_euclid local (pos 86400)) months)
    (λ day. Ok (seconds_at day (int_rem_euclid local (pos 86400)) now.offset)))

-- The time that is so far before a moment, by its clock: first the months, then the seconds.
unfoldable pub time_before : Time → Ago → Result Time DateError
time_before now ago = result_and_then (seconds_before now ago.months) (λ start. time_at (start -ℤ pos ago.seconds) now.offset)

-- The time that is a sum before a moment, if the sum is in range.
unfoldable pub time_before_sum : Time → Result Ago DateError → Result Time DateError
time_before_sum now sum = result_and_then sum (λ ago. time_before now ago)

-- How units counted back are read.
unfoldable pub relative_date : List ℕ → Time → Reading
relative_date text now = option_map (λ sum. time_before_sum now sum) (ago_of text)
