-- Months as numbers: that of a day, and the day so many months before.
use Rattle.std.proofs.Common.{◌≡◌, Bool, true, false, int_le, ℕ, zero, suc, ◌+◌, ◌-◌, ◌<◌, ◌≤◌, refl, sym, ap, ◌∙◌, arith, ℤ, pos, neg_ℤ, ◌+ℤ◌, ◌-ℤ◌, ◌*ℤ◌, ◌<ℤ◌, ◌≤ℤ◌, unsigned_abs, Ok, Err, cond, ◌&&◌, min, if◌then◌else◌}
use Rattle.std.proofs.lemmas.Int.{by_lt_z}
use Rattle.std.specs.Int.{int_div_euclid, int_rem_euclid}
use Rattle.jiff_core.specs.Calendar.{days_in_month, days_from_civil}
use Rattle.jiff_core.specs.declared.civil.date.Date.{Date}
use Rattle.jiff_core.specs.Calendar.{IsEpochDay}
use Rattle.jiff_core.specs.Date.{epoch_day}
use Rattle.jiff_span.specs.Months.{month_number, add_months, IsShiftable, shifted_year}
use Rattle.jiff_core.proofs.SignedLemmas.{signed_arith}
use Rattle.jiff_core.proofs.DateLemmas.{civil, epoch_day_range, days_from_civil-day}
use Rattle.jiff_span.proofs.MonthLemmas.{days_from_civil-month}
use Rattle.gix_date.proofs.Holds.{otherwise, where_true, between, is_between}
use Rattle.gix_date.specs.declared.date.error.DateError.TheVariants.{OutOfRange}
use Rattle.gix_date.specs.DateLaws.{LiesMonthsBefore, MonthsArePulledBack, MonthsBeforeYearsAreRefused}
use Rattle.gix_date.specs.Months.{first_day, month_among, day_in, months_before}
use Rattle.jiff_core.proofs.CalendarLemmas.{days_in_month_bounds}

-- the year and the month of a month number
month_parts : (k y : ℤ) (m : ℕ) → k ≡ y *ℤ pos 12 +ℤ pos (m - 1) → 1 ≤ m → m ≤ 12 → (int_div_euclid k (pos 12) ≡ y) × (unsigned_abs (int_rem_euclid k (pos 12)) + 1 ≡ m)
month_parts k y m e low high = omega (arith, signed_arith)

pub month_in : (k : ℤ) → (1 ≤ unsigned_abs (int_rem_euclid k (pos 12)) + 1) × (unsigned_abs (int_rem_euclid k (pos 12)) + 1 ≤ 12)
month_in k = omega (arith, signed_arith)

pub month_again : (k : ℤ) → k ≡ int_div_euclid k (pos 12) *ℤ pos 12 +ℤ pos (unsigned_abs (int_rem_euclid k (pos 12)) + 1 - 1)
month_again k = omega (arith, signed_arith)

-- the first day of a date's month
pub first_day-month_number : (d : Date) → first_day (month_number d) +ℤ pos d.day ≡ epoch_day d +ℤ pos 1
first_day-month_number d =
    let p = month_parts (month_number d) d.year d.month refl d.month_in.0 d.month_in.1 in
    rw (p.0, p.1) (days_from_civil-day d.year d.month 1 d.day (omega arith) d.day_in.0)

-- a later month begins after the date
first_day-later : (d : Date) (k : ℤ) → month_number d <ℤ k → epoch_day d <ℤ first_day k
first_day-later d k lt =
    let again = month_again k in
    days_from_civil-month d.year (int_div_euclid k (pos 12)) d.month (unsigned_abs (int_rem_euclid k (pos 12)) + 1) d.day 1
    (civil d) (month_in k).0 (month_in k).1 (omega arith) (omega (arith, signed_arith))

month_is : (d : Date) (k : ℤ) → month_number d ≤ℤ k → int_le (first_day k) (epoch_day d) ≡ true → k ≡ month_number d
month_is d k le e = by_lt_z (month_number d) k
    (λ lt. let later = first_day-later d k lt in absurd (omega (arith, signed_arith)))
    (λ ge. omega (arith, signed_arith))

month_less : (d : Date) (k : ℤ) → int_le (first_day k) (epoch_day d) ≡ false → (n : ℕ) → month_number d ≤ℤ k → k ≡ pos (suc n) -ℤ pos 119_988 → month_number d ≤ℤ (pos n -ℤ pos 119_988)
month_less d k e n le is = by_lt_z (month_number d) k
    (λ lt. omega (arith, signed_arith))
    (λ ge. let same : month_number d ≡ k = omega (arith, signed_arith) in
    let first = first_day-month_number d in
    let on = d.day_in.0 in
    let first' = rw same at first in
    absurd (omega (arith, signed_arith)))

-- the last month that begins on a date's day or before it is the date's
pub month_among-epoch_day : (n : ℕ) (d : Date) → month_number d ≤ℤ (pos n -ℤ pos 119_988) → month_among n (epoch_day d) ≡ month_number d
unfolding month_among
month_among-epoch_day zero d le = omega (arith, signed_arith, d.year_in, d.month_in)
month_among-epoch_day (suc n) d le =
    let k : ℤ = pos (suc n) -ℤ pos 119_988 in
    let first = first_day-month_number d in
    let on = d.day_in.0 in
    let step : (v : Bool) → int_le (first_day k) (epoch_day d) ≡ v → cond v k (month_among n (epoch_day d)) ≡ month_number d
    = λ v. elim v as (λ v. int_le (first_day k) (epoch_day d) ≡ v → cond v k (month_among n (epoch_day d)) ≡ month_number d) [
      | true ↦ λ e. month_is d k le e
      | false ↦ λ e. month_among-epoch_day n d (month_less d k e n le refl)
    ] in
    step (int_le (first_day k) (epoch_day d)) refl

-- the place of a date in its month
into_month : (d : Date) → epoch_day d -ℤ first_day (month_number d) ≡ pos (d.day - 1)
into_month d =
    let first = first_day-month_number d in
    let on = d.day_in.0 in
    omega (arith, signed_arith)

pub day_of_month-epoch_day : (d : Date) → unsigned_abs (epoch_day d -ℤ first_day (month_number d)) + 1 ≡ d.day
day_of_month-epoch_day d = let on = d.day_in.0 in rw (into_month d) (omega arith)

-- the day number so many months before a date
months_before-epoch_day : (d : Date) (months : ℕ) → months_before (epoch_day d) months ≡ day_in (month_number d +ℤ neg_ℤ (pos months)) d.day
unfolding months_before
months_before-epoch_day d months =
    let month = month_among-epoch_day 239_987 d (omega (arith, signed_arith, d.year_in, d.month_in)) in
    let range = epoch_day_range d in
    rw (is_between (neg_ℤ (pos 4_371_587)) (pos 2_932_896) (epoch_day d) range.0 range.1, month) (rw (day_of_month-epoch_day d) refl)

-- there is none before a day that is in no year
pub months_before-beyond : (day : ℤ) (months : ℕ) → (IsEpochDay day → ⊥) → Err OutOfRange ≡ months_before day months
unfolding months_before
months_before-beyond day months h = otherwise _ _ _ (λ e. h (between (neg_ℤ (pos 4_371_587)) (pos 2_932_896) day e))

-- the day of the month, or the last one
day_in-add_months : (d : Date) (months : ℕ) → IsShiftable d (neg_ℤ (pos months)) → Ok (add_months d (neg_ℤ (pos months))) ≡ day_in (month_number d +ℤ neg_ℤ (pos months)) d.day
unfolding day_in
day_in-add_months d months h =
    where_true _ _ _ (is_between (neg_ℤ (pos 9999)) (pos 9999) (shifted_year d (neg_ℤ (pos months))) h.0 h.1)

day_in-beyond : (d : Date) (months : ℕ) → (IsShiftable d (neg_ℤ (pos months)) → ⊥) → Err OutOfRange ≡ day_in (month_number d +ℤ neg_ℤ (pos months)) d.day
unfolding day_in
day_in-beyond d months h = otherwise _ _ _ (λ e. h (between (neg_ℤ (pos 9999)) (pos 9999) (shifted_year d (neg_ℤ (pos months))) e))

far : (d : Date) (months : ℕ) → 500_000 < months → IsShiftable d (neg_ℤ (pos months)) → ⊥
far d months lt h = omega (arith, signed_arith, d.year_in, d.month_in, h)

-- the day number so many months before, as it is reached
pub months_before-shiftable : (d : Date) (day : ℤ) (months : ℕ) (r k : ℤ) → epoch_day d ≡ day → k ≡ neg_ℤ (pos months) → IsShiftable d k → r ≡ add_months d k → Ok r ≡ months_before day months
months_before-shiftable d day months r k e back h is =
    ap (λ z. Ok z) (rw back at is) ∙ day_in-add_months d months (rw back at h) ∙ sym (months_before-epoch_day d months) ∙ ap (λ z. months_before z months) e

pub months_before-unshiftable : (d : Date) (day : ℤ) (months : ℕ) (k : ℤ) → epoch_day d ≡ day → k ≡ neg_ℤ (pos months) → (IsShiftable d k → ⊥) → Err OutOfRange ≡ months_before day months
months_before-unshiftable d day months k e back h =
    day_in-beyond d months (rw back at h) ∙ sym (months_before-epoch_day d months) ∙ ap (λ z. months_before z months) e

pub months_before-far : (d : Date) (day : ℤ) (months : ℕ) → epoch_day d ≡ day → 500_000 < months → Err OutOfRange ≡ months_before day months
months_before-far d day months e lt = months_before-unshiftable d day months (neg_ℤ (pos months)) e refl (far d months lt)

-- the month that lies so many months before a date's, by its number
number_before : (d : Date) (months : ℕ) (year : ℤ) (month : ℕ) → LiesMonthsBefore year month months d → (month_number d +ℤ neg_ℤ (pos months)) ≡ year *ℤ pos 12 +ℤ pos (month - 1)
number_before d months year month h =
    let low = h.0.0 in
    let same = h.1 in
    omega (arith, signed_arith, d.month_in)

-- the day so many months before a date, as a day of that month
months_before-lies : (d : Date) (months : ℕ) (year : ℤ) (month : ℕ) → LiesMonthsBefore year month months d → months_before (epoch_day d) months ≡ (if int_le (neg_ℤ (pos 9999)) year && int_le year (pos 9999) then Ok (days_from_civil year month (min d.day (days_in_month year month))) else Err OutOfRange)
unfolding day_in
months_before-lies d months year month h =
    let p = month_parts (month_number d +ℤ neg_ℤ (pos months)) year month (number_before d months year month h) h.0.0 h.0.1 in
    months_before-epoch_day d months ∙ rw (p.0, p.1) refl

pub months_are_pulled_back : MonthsArePulledBack
months_are_pulled_back d months year month h y =
    let long = days_in_month_bounds year month in
    let on = d.day_in.0 in (
      months_before-lies d months year month h ∙ sym (where_true _ _ _ (is_between (neg_ℤ (pos 9999)) (pos 9999) year y.0 y.1)),
      (y, h.0, (omega arith, omega arith)),
    )

pub months_before_years_are_refused : MonthsBeforeYearsAreRefused
months_before_years_are_refused d months year month h beyond =
    months_before-lies d months year month h ∙ sym (otherwise _ _ _ (λ e. beyond (between (neg_ℤ (pos 9999)) (pos 9999) year e)))
