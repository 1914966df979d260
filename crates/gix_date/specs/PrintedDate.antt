-- Times as texts.
use Rattle.std.specs.Prelude.{◌≡◌, ℕ, ◌≤◌, List, ◌∷◌, ◌++◌, Bool, Ok, ℤ, pos, ◌*ℤ◌, ◌≤ℤ◌, FitsSigned, if◌then◌else◌}
use Rattle.std.specs.Fmt.{signed_decimal}
use Rattle.std.specs.Int.{w64}
use Rattle.jiff_core.specs.declared.civil.date.Date.{Date}
use Rattle.jiff_core.specs.Date.{epoch_day}
use Rattle.jiff_fmt.specs.Text.{pad2, date_text}
use Rattle.gix_base.specs.declared.date.Time.{Time}
use Rattle.gix_date.specs.Offset.{offset_seconds}
use Rattle.gix_date.specs.Date.{date_of}

-- An offset as a sign and four digits (git's date-formats, `<time-zone-offset>`).
abbrev pub zone_text : (behind : Bool) (hours minutes : ℕ) → List ℕ
zone_text behind hours minutes = (if behind then 45 else 43) ∷ (pad2 hours ++ pad2 minutes)

-- Seconds and an offset, as git log's `--date=raw` prints them.
abbrev pub raw_text : (seconds : ℤ) (behind : Bool) (hours minutes : ℕ) → List ℕ
raw_text seconds behind hours minutes = signed_decimal seconds ++ (32 ∷ zone_text behind hours minutes)

-- A time that is printed so reads back at every moment: any seconds of an `i64`, and an offset of
-- whole minutes below 24 hours.
abbrev pub TimesReadBack : Type 0
TimesReadBack =
    (seconds : ℤ) (behind : Bool) (hours minutes : ℕ) (now : Time) → FitsSigned w64 seconds → hours ≤ 23 → minutes ≤ 59
    → date_of (raw_text seconds behind hours minutes) now
    ≡ Ok (record { seconds = seconds; offset = offset_seconds behind hours minutes })

-- A day of the years 0 to 9999, as jiff prints it, reads back as its midnight at every moment.
abbrev pub DaysReadBack : Type 0
DaysReadBack =
    (date : Date) (now : Time) → pos 0 ≤ℤ date.year
    → date_of (date_text date) now ≡ Ok (record { seconds = epoch_day date *ℤ pos 86400; offset = pos 0 })
