-- What is counted back to lies at the moment or before it.
use Rattle.std.proofs.Common.{◌≡◌, refl, Bool, true, false, cond, ◌&&◌, int_le, ℕ, zero, suc, ◌+◌, ◌-◌, ◌≤◌, min, ◌==◌, Some, None, Option, Result, Ok, Err, IfOk, ℤ, pos, negsuc, neg_ℤ, ◌+ℤ◌, ◌-ℤ◌, ◌≤ℤ◌, unsigned_abs, option_map, arith, subst, ◌^◌}
use Rattle.std.specs.Int.{int_div_euclid, int_rem_euclid}
use Rattle.std.proofs.lemmas.Int.{by_lt_z}
use Rattle.jiff_core.specs.Calendar.{IsYear, days_in_month, days_from_civil}
use Rattle.jiff_core.proofs.SignedLemmas.{signed_arith}
use Rattle.jiff_core.proofs.CalendarLemmas.{days_in_month_bounds}
use Rattle.jiff_core.proofs.DateLemmas.{days_from_civil-day, days_from_civil-min}
use Rattle.jiff_span.proofs.MonthLemmas.{days_from_civil-month}
use Rattle.gix_base.specs.declared.date.Time.{Time}
use Rattle.gix_date.specs.declared.date.error.DateError.{DateError}
use Rattle.gix_date.specs.declared.date.error.DateError.TheVariants.{OutOfRange}
use Rattle.gix_date.specs.declared.date.ago.Ago.{Ago}
use Rattle.gix_date.specs.Ago.{ago_of}
use Rattle.gix_date.specs.Civil.{seconds_at}
use Rattle.gix_date.specs.DateLaws.{AgoIsNeverLater}
use Rattle.gix_date.specs.DateReading.{time_at}
use Rattle.gix_date.specs.DateSteps.{result_and_then}
use Rattle.gix_date.specs.Months.{first_day, month_among, month_of, day_of_month, day_in, months_before}
use Rattle.gix_date.specs.RelativeDate.{seconds_before, time_before, time_before_sum, relative_date}
use Rattle.gix_date.proofs.Holds.{between}
use Rattle.gix_date.proofs.Months.{month_in, month_again}

-- a day's month begins on the day or before it
first_day-month_among : (n : ℕ) (day : ℤ) → neg_ℤ (pos 4_371_587) ≤ℤ day → first_day (month_among n day) ≤ℤ day
unfolding month_among
first_day-month_among zero day h = let first = days_from_civil-min in omega (arith, signed_arith)
first_day-month_among (suc n) day h =
    let k : ℤ = pos (suc n) -ℤ pos 119_988 in
    let step : (v : Bool) → int_le (first_day k) day ≡ v → first_day (cond v k (month_among n day)) ≤ℤ day
    = λ v. elim v as (λ v. int_le (first_day k) day ≡ v → first_day (cond v k (month_among n day)) ≤ℤ day) [
      | true ↦ λ e. omega (arith, signed_arith)
      | false ↦ λ e. first_day-month_among n day h
    ] in
    step (int_le (first_day k) day) refl

-- a place of a month, or of one before it, lies on the day at that place of the month or before it
place-le : (k month : ℤ) (place : ℕ) → k ≤ℤ month → 1 ≤ place → IsYear (int_div_euclid k (pos 12)) → days_from_civil (int_div_euclid k (pos 12)) (unsigned_abs (int_rem_euclid k (pos 12)) + 1) (min place (days_in_month (int_div_euclid k (pos 12)) (unsigned_abs (int_rem_euclid k (pos 12)) + 1))) ≤ℤ (first_day month +ℤ pos (place - 1))
place-le k month place le some year =
    let y = int_div_euclid k (pos 12) in
    let m = unsigned_abs (int_rem_euclid k (pos 12)) + 1 in
    let last = days_in_month y m in
    let long = days_in_month_bounds y m in
    let on : 1 ≤ min place last = omega (arith, long) in
    let within : min place last ≤ last = omega arith in
    by_lt_z k month
    (λ lt.
    let earlier = days_from_civil-month y (int_div_euclid month (pos 12)) m (unsigned_abs (int_rem_euclid month (pos 12)) + 1) (min place last) 1 (year, month_in k, (on, within)) (month_in month).0 (month_in month).1 (omega arith) (omega (arith, signed_arith, month_again k, month_again month)) in
    omega (arith, signed_arith, earlier))
    (λ ge.
    let same : k ≡ month = omega (arith, signed_arith) in
    let first = days_from_civil-day y m (min place last) 1 on (omega arith) in
    rw (← same) (omega (arith, signed_arith, first, on)))

day_in-le : (k month : ℤ) (place : ℕ) → k ≤ℤ month → 1 ≤ place → IfOk (day_in k place) (λ day. day ≤ℤ (first_day month +ℤ pos (place - 1)))
unfolding day_in
day_in-le k month place le some =
    let y = int_div_euclid k (pos 12) in
    let m = unsigned_abs (int_rem_euclid k (pos 12)) + 1 in
    let day = days_from_civil y m (min place (days_in_month y m)) in
    let step : (v : Bool) → (int_le (neg_ℤ (pos 9999)) y && int_le y (pos 9999)) ≡ v → IfOk (cond v (Ok day) (Err OutOfRange)) (λ day. day ≤ℤ (first_day month +ℤ pos (place - 1)))
    = λ v. elim v as (λ v. (int_le (neg_ℤ (pos 9999)) y && int_le y (pos 9999)) ≡ v → IfOk (cond v (Ok day) (Err OutOfRange)) (λ day. day ≤ℤ (first_day month +ℤ pos (place - 1)))) [
      | true ↦ λ e. place-le k month place le some (between (neg_ℤ (pos 9999)) (pos 9999) y e)
      | false ↦ λ e. tt
    ] in
    step (int_le (neg_ℤ (pos 9999)) y && int_le y (pos 9999)) refl

IfOk-le : (r : Result ℤ DateError) (low high : ℤ) → low ≡ high → IfOk r (λ day. day ≤ℤ low) → IfOk r (λ day. day ≤ℤ high)
IfOk-le r low high e h = let P : ℤ → Type 0 = λ z. IfOk r (λ day. day ≤ℤ z) in subst P e h

-- a day's place in its month leads back to the day
distance : (z : ℤ) → pos 0 ≤ℤ z → pos (unsigned_abs z) ≡ z
distance (pos n) h = refl
distance (negsuc n) h = absurd (omega (arith, signed_arith))

day_again : (first day : ℤ) → first ≤ℤ day → first +ℤ pos (unsigned_abs (day -ℤ first) + 1 - 1) ≡ day
day_again first day h =
    let on = distance (day -ℤ first) (omega (arith, signed_arith)) in
    let one : unsigned_abs (day -ℤ first) + 1 - 1 ≡ unsigned_abs (day -ℤ first) = omega arith in
    rw one (rw on (omega (arith, signed_arith)))

months_before-le : (day : ℤ) (months : ℕ) → IfOk (months_before day months) (λ before. before ≤ℤ day)
unfolding months_before
months_before-le day months =
    let month = month_of day in
    let k : ℤ = month +ℤ neg_ℤ (pos months) in
    let in_calendar = int_le (neg_ℤ (pos 4_371_587)) day && int_le day (pos 2_932_896) in
    let step : (v : Bool) → in_calendar ≡ v → IfOk (cond v (day_in k (day_of_month day)) (Err OutOfRange)) (λ before. before ≤ℤ day)
    = λ v. elim v as (λ v. in_calendar ≡ v → IfOk (cond v (day_in k (day_of_month day)) (Err OutOfRange)) (λ before. before ≤ℤ day)) [
      | true ↦ λ e.
          let first = first_day-month_among 239_987 day (between (neg_ℤ (pos 4_371_587)) (pos 2_932_896) day e).0 in
          IfOk-le (day_in k (day_of_month day)) _ _ (day_again (first_day month) day first) (day_in-le k month (day_of_month day) (omega (arith, signed_arith)) (omega arith))
      | false ↦ λ e. tt
    ] in
    step in_calendar refl

clock_earlier : (day before second offset : ℤ) → before ≤ℤ day → seconds_at before second offset ≤ℤ seconds_at day second offset
clock_earlier day before second offset h = omega (arith, signed_arith)

clock_now : (now offset : ℤ) → seconds_at (int_div_euclid (now +ℤ offset) (pos 86400)) (int_rem_euclid (now +ℤ offset) (pos 86400)) offset ≡ now
clock_now now offset = omega (arith, signed_arith)

le_z_along : (a b c : ℤ) → a ≤ℤ b → b ≡ c → a ≤ℤ c
le_z_along a b c h e = let P : ℤ → Type 0 = λ z. a ≤ℤ z in subst P e h

seconds_before-le : (now : Time) (months : ℕ) → IfOk (seconds_before now months) (λ start. start ≤ℤ now.seconds)
unfolding seconds_before
seconds_before-le now months =
    let local : ℤ = now.seconds +ℤ now.offset in
    let day = int_div_euclid local (pos 86400) in
    let second = int_rem_euclid local (pos 86400) in
    let reach : (r : Result ℤ DateError) → IfOk r (λ before. before ≤ℤ day) → IfOk (result_and_then r (λ before. Ok (seconds_at before second now.offset))) (λ start. start ≤ℤ now.seconds)
    = λ r. elim r as (λ r. IfOk r (λ before. before ≤ℤ day) → IfOk (result_and_then r (λ before. Ok (seconds_at before second now.offset))) (λ start. start ≤ℤ now.seconds)) [
      | Ok before ↦ λ h. le_z_along _ _ _ (clock_earlier day before second now.offset h) (clock_now now.seconds now.offset)
      | Err e ↦ λ h. tt
    ] in
    let step : (v : Bool) → IfOk (cond v (Ok now.seconds) (result_and_then (months_before day months) (λ before. Ok (seconds_at before second now.offset)))) (λ start. start ≤ℤ now.seconds)
    = λ v. elim v as (λ v. IfOk (cond v (Ok now.seconds) (result_and_then (months_before day months) (λ before. Ok (seconds_at before second now.offset)))) (λ start. start ≤ℤ now.seconds)) [
      | true ↦ omega (arith, signed_arith)
      | false ↦ reach (months_before day months) (months_before-le day months)
    ] in
    step (months == 0)

-- a time that lies at a moment or before it, on its clock
abbrev IsEarlier : Time → Time → Type 0
IsEarlier now time = (time.seconds ≤ℤ now.seconds) × (time.offset ≡ now.offset)

time_at-earlier : (now : Time) (start : ℤ) (seconds : ℕ) → start ≤ℤ now.seconds → IfOk (time_at (start -ℤ pos seconds) now.offset) (IsEarlier now)
time_at-earlier now start seconds le =
    let step : (v : Bool) → IfOk (cond v (Ok (record { seconds = start -ℤ pos seconds; offset = now.offset })) (Err OutOfRange)) (IsEarlier now)
    = λ v. elim v as (λ v. IfOk (cond v (Ok (record { seconds = start -ℤ pos seconds; offset = now.offset })) (Err OutOfRange)) (IsEarlier now)) [
      | true ↦ (omega (arith, signed_arith), refl)
      | false ↦ tt
    ] in
    step (int_le (neg_ℤ (pos (2 ^ 63))) (start -ℤ pos seconds) && int_le (start -ℤ pos seconds) (pos (2 ^ 63 - 1)))

time_before-earlier : (now : Time) (ago : Ago) → IfOk (time_before now ago) (IsEarlier now)
unfolding time_before
time_before-earlier now ago =
    let step : (r : Result ℤ DateError) → IfOk r (λ start. start ≤ℤ now.seconds) → IfOk (result_and_then r (λ start. time_at (start -ℤ pos ago.seconds) now.offset)) (IsEarlier now)
    = λ r. elim r as (λ r. IfOk r (λ start. start ≤ℤ now.seconds) → IfOk (result_and_then r (λ start. time_at (start -ℤ pos ago.seconds) now.offset)) (IsEarlier now)) [
      | Ok start ↦ λ h. time_at-earlier now start ago.seconds h
      | Err e ↦ λ h. tt
    ] in
    step (seconds_before now ago.months) (seconds_before-le now ago.months)

time_before_sum-earlier : (now : Time) (sum : Result Ago DateError) → IfOk (time_before_sum now sum) (IsEarlier now)
unfolding time_before_sum
time_before_sum-earlier now (Ok ago) = time_before-earlier now ago
time_before_sum-earlier now (Err e) = tt

read_earlier : (now time : Time) (sum : Option (Result Ago DateError)) → option_map (λ sum. time_before_sum now sum) sum ≡ Some (Ok time) → IsEarlier now time
read_earlier now time None h = cc
read_earlier now time (Some sum) h =
    let is : time_before_sum now sum ≡ Ok time = cc in
    rw is at (time_before_sum-earlier now sum)

pub ago_is_never_later : AgoIsNeverLater
unfolding relative_date
ago_is_never_later text now time h = read_earlier now time (ago_of text) h
