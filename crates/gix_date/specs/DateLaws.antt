-- What the definitions say together.
use Rattle.std.specs.Prelude.{◌≡◌, ◌⊎◌, ℕ, ◌+◌, List, [], ◌∷◌, min, IfErr, IsSome, Some, Ok, Err, ℤ, pos, ◌+ℤ◌, ◌*ℤ◌, ◌≤ℤ◌, AllPairs}
use Rattle.std.specs.Int.{IsInRange}
use Rattle.jiff_core.specs.declared.civil.date.Date.{Date}
use Rattle.jiff_core.specs.Calendar.{IsYear, IsCivilDate, days_in_month, days_from_civil}
use Rattle.jiff_core.specs.Date.{epoch_day}
use Rattle.gix_base.specs.declared.date.Time.{Time}
use Rattle.gix_date.specs.declared.date.error.DateError.TheVariants.{NotADate, OutOfRange}
use Rattle.gix_date.specs.DateReading.{Reading}
use Rattle.gix_date.specs.RawDate.{raw_date}
use Rattle.gix_date.specs.ShortDate.{short_date}
use Rattle.gix_date.specs.Iso8601Date.{iso8601_date}
use Rattle.gix_date.specs.WordDate.{word_date}
use Rattle.gix_date.specs.RelativeDate.{relative_date}
use Rattle.gix_date.specs.Months.{months_before}
use Rattle.gix_date.specs.Date.{date_of}

-- No text is read by both forms.
abbrev pub Excludes : Reading → Reading → Type 0
Excludes a b = IsSome a → IsSome b → ⊥

-- No text has the shape of two of the first five forms.
abbrev pub FormsAreApart : Type 0
FormsAreApart =
    (text : List ℕ) (now : Time)
    → AllPairs Excludes (raw_date text ∷ short_date text ∷ iso8601_date text now ∷ word_date text now ∷ relative_date text now ∷ [])

-- A time that is counted back to is not after the moment, and is on its clock.
abbrev pub AgoIsNeverLater : Type 0
AgoIsNeverLater =
    (text : List ℕ) (now time : Time) → relative_date text now ≡ Some (Ok time)
    → (time.seconds ≤ℤ now.seconds) × (time.offset ≡ now.offset)

-- A month is a number of months before the month of a date.
abbrev pub LiesMonthsBefore : (year : ℤ) (month : ℕ) (months : ℕ) (date : Date) → Type 0
LiesMonthsBefore year month months date =
    IsInRange 1 12 month × ((year *ℤ pos 12 +ℤ pos (month + months)) ≡ (date.year *ℤ pos 12 +ℤ pos date.month))

-- So many months before a date is the same day of the month that is so many months earlier, or that
-- month's last day if it does not have this day: a date of that month and of no other. The calendar
-- has to have the year of that month.
abbrev pub MonthsArePulledBack : Type 0
MonthsArePulledBack =
    (date : Date) (months : ℕ) (year : ℤ) (month : ℕ) → LiesMonthsBefore year month months date → IsYear year
    → (months_before (epoch_day date) months ≡ Ok (days_from_civil year month (min date.day (days_in_month year month))))
    × IsCivilDate year month (min date.day (days_in_month year month))

-- There is no such date if the calendar does not have that year.
abbrev pub MonthsBeforeYearsAreRefused : Type 0
MonthsBeforeYearsAreRefused =
    (date : Date) (months : ℕ) (year : ℤ) (month : ℕ) → LiesMonthsBefore year month months date → ¬ (IsYear year)
    → months_before (epoch_day date) months ≡ Err OutOfRange

-- No text gives `OutOfMemory`: it is not a date, or out of range.
abbrev pub NoneWantsMemory : Type 0
NoneWantsMemory = (text : List ℕ) (now : Time) → IfErr (date_of text now) (λ e. (e ≡ NotADate) ⊎ (e ≡ OutOfRange))
