-- Why texts are refused.
use Rattle.std.proofs.Common.{◌≡◌, refl, inl, inr, ◌⊎◌, Bool, true, false, cond, ◌==◌, ℕ, List, length, [], ◌∷◌, codes, ◌&&◌, int_le, ℤ, pos, neg_ℤ, ◌+ℤ◌, ◌-ℤ◌, Option, None, Some, unwrap_or, IfSome, IfErr, Result, Ok, Err, option_map}
use Rattle.std.specs.Int.{int_div_euclid}
use Rattle.std.specs.Option.{option_and_then}
use Rattle.std.specs.Result.{result_map_both}
use Rattle.std.specs.Str.{is_utf8}
use Rattle.jiff_fmt.specs.Rfc2822.{timestamp_with_offset}
use Rattle.gix_base.specs.declared.date.Time.{Time}
use Rattle.gix_date.specs.declared.date.error.DateError.{DateError}
use Rattle.gix_date.specs.declared.date.error.DateError.TheVariants.{NotADate, OutOfRange}
use Rattle.gix_date.specs.declared.date.ago.Ago.{Ago}
use Rattle.gix_date.specs.Ago.{Count, counts_of, ago_in}
use Rattle.gix_date.specs.Civil.{day_number, day_of, second_of_day, clock_of}
use Rattle.gix_date.specs.Date.{date_of}
use Rattle.gix_date.specs.DateLaws.{NoneWantsMemory}
use Rattle.gix_date.specs.DateReading.{Reading, time_at}
use Rattle.gix_date.specs.DateSteps.{result_and_then}
use Rattle.gix_date.specs.DateWords.{words_of}
use Rattle.gix_date.specs.Iso8601Date.{zone_of, civil_time, iso8601_date}
use Rattle.gix_date.specs.Months.{month_of, day_of_month, day_in, months_before}
use Rattle.gix_date.specs.Offset.{offset_by, offset_of}
use Rattle.gix_date.specs.RawDate.{raw_time, raw_date}
use Rattle.gix_date.specs.RelativeDate.{seconds_before, time_before, time_before_sum, relative_date}
use Rattle.gix_date.specs.Rfc2822Date.{rfc2822_date}
use Rattle.gix_date.specs.Shape.{is_word}
use Rattle.gix_date.specs.ShortDate.{midnight_of, short_date}
use Rattle.gix_date.specs.WordDate.{word_date}

-- refused as out of range alone
abbrev Ranged : {T : Type 0} → Result T DateError → Type 0
Ranged r = IfErr r (λ e. e ≡ OutOfRange)

either : {T : Type 0} (b : Bool) (r s : Result T DateError) → Ranged r → Ranged s → Ranged (cond b r s)
either true r s h k = h
either false r s h k = k

if_ok : {T : Type 0} (b : Bool) (x : T) → Ranged (cond b (Ok x) (Err OutOfRange))
if_ok true x = tt
if_ok false x = refl

and_then : {T U : Type 0} (r : Result T DateError) (step : T → Result U DateError) → Ranged r → ((x : T) → Ranged (step x)) → Ranged (result_and_then r step)
and_then (Ok x) step h k = k x
and_then (Err e) step h k = h

offset_of-ranged : (text : List ℕ) → Ranged (offset_of text)
unfolding offset_of offset_by
offset_of-ranged text = if_ok _ _

day_of-ranged : (text : List ℕ) → Ranged (day_of text)
unfolding day_of day_number
day_of-ranged text = if_ok _ _

clock_of-ranged : (text : List ℕ) → Ranged (clock_of text)
unfolding clock_of second_of_day
clock_of-ranged text = if_ok _ _

zone_of-ranged : (now : Time) (text : List ℕ) → Ranged (zone_of now text)
unfolding zone_of
zone_of-ranged now text = either (length text == 0) _ _ tt (either (length text == 1) _ _ tt (offset_of-ranged _))

raw_time-ranged : (seconds zone : List ℕ) → Ranged (raw_time seconds zone)
unfolding raw_time
raw_time-ranged seconds zone = and_then (offset_of zone) _ (offset_of-ranged zone) (λ offset. if_ok _ _)

midnight_of-ranged : (text : List ℕ) → Ranged (midnight_of text)
unfolding midnight_of
midnight_of-ranged text = and_then (day_of text) _ (day_of-ranged text) (λ day. tt)

civil_time-ranged : (text : List ℕ) (now : Time) → Ranged (civil_time text now)
unfolding civil_time
civil_time-ranged text now =
    and_then (day_of text) _ (day_of-ranged text) (λ day.
    and_then (clock_of _) _ (clock_of-ranged _) (λ second.
    and_then (zone_of now _) _ (zone_of-ranged now _) (λ offset. tt)))

day_in-ranged : (month : ℤ) (place : ℕ) → Ranged (day_in month place)
unfolding day_in
day_in-ranged month place = if_ok _ _

months_before-ranged : (day : ℤ) (months : ℕ) → Ranged (months_before day months)
unfolding months_before
months_before-ranged day months =
    either (int_le (neg_ℤ (pos 4_371_587)) day && int_le day (pos 2_932_896)) (day_in (month_of day +ℤ neg_ℤ (pos months)) (day_of_month day)) (Err OutOfRange) (day_in-ranged _ _) refl

seconds_before-ranged : (now : Time) (months : ℕ) → Ranged (seconds_before now months)
unfolding seconds_before
seconds_before-ranged now months =
    either (months == 0) _ _ tt (and_then (months_before _ months) _ (months_before-ranged _ months) (λ day. tt))

time_before_sum-ranged : (now : Time) (sum : Result Ago DateError) → Ranged sum → Ranged (time_before_sum now sum)
unfolding time_before_sum time_before
time_before_sum-ranged now sum h =
    and_then sum _ h (λ ago. and_then (seconds_before now ago.months) _ (seconds_before-ranged now ago.months) (λ start. if_ok _ _))

-- each form refuses a text of its shape as out of range alone
if_shaped : (b : Bool) (r : Result Time DateError) (other : Reading) → Ranged r → IfSome other Ranged → IfSome (cond b (Some r) other) Ranged
if_shaped true r other h k = h
if_shaped false r other h k = k

raw_date-ranged : (text : List ℕ) → IfSome (raw_date text) Ranged
unfolding raw_date
raw_date-ranged text = if_shaped _ _ None (raw_time-ranged _ _) tt

short_date-ranged : (text : List ℕ) → IfSome (short_date text) Ranged
unfolding short_date
short_date-ranged text = if_shaped _ _ None (midnight_of-ranged text) tt

iso8601_date-ranged : (text : List ℕ) (now : Time) → IfSome (iso8601_date text now) Ranged
unfolding iso8601_date
iso8601_date-ranged text now = if_shaped _ _ None (civil_time-ranged text now) tt

yesterday : (b : Bool) (now : Time) → IfSome (cond b (Some (time_at (now.seconds -ℤ pos 86400) now.offset)) None) Ranged
yesterday true now = if_ok _ _
yesterday false now = tt

now_or : (b : Bool) (now : Time) (other : Reading) → IfSome other Ranged → IfSome (cond b (Some (Ok now)) other) Ranged
now_or true now other h = tt
now_or false now other h = h

word_date-ranged : (text : List ℕ) (now : Time) → IfSome (word_date text now) Ranged
unfolding word_date
word_date-ranged text now =
    now_or (is_word (codes "now") text) now (cond (is_word (codes "yesterday") text) (Some (time_at (now.seconds -ℤ pos 86400) now.offset)) None) (yesterday (is_word (codes "yesterday") text) now)

counted : (now : Time) (counts : Option (List Count)) → IfSome (option_map (λ sum. time_before_sum now sum) (option_and_then ago_in counts)) Ranged
counted now None = tt
counted now (Some []) = tt
counted now (Some (count ∷ counts)) = time_before_sum-ranged now _ (if_ok _ _)

relative_date-ranged : (text : List ℕ) (now : Time) → IfSome (relative_date text now) Ranged
unfolding relative_date
relative_date-ranged text now = counted now (counts_of (words_of text))

-- refused as no date, or as out of range
abbrev Refused : Result Time DateError → Type 0
Refused r = IfErr r (λ e. (e ≡ NotADate) ⊎ (e ≡ OutOfRange))

ranged_refused : (r : Result Time DateError) → Ranged r → Refused r
ranged_refused (Ok time) h = tt
ranged_refused (Err e) h = inr h

first_read : (r : Reading) (other : Result Time DateError) → IfSome r Ranged → Refused other → Refused (unwrap_or r other)
first_read None other h k = k
first_read (Some r) other h k = ranged_refused r h

rfc2822_date-refused : (text : List ℕ) → Refused (rfc2822_date text)
unfolding rfc2822_date
rfc2822_date-refused text =
    elim (timestamp_with_offset false text) as (λ r. Refused (result_map_both (λ p. record { seconds = int_div_euclid p.0 (pos 1_000_000_000); offset = p.1 }) (λ e. NotADate) r)) [ Ok p ↦ tt | Err e ↦ inl refl ]

if_text : (b : Bool) (r : Result Time DateError) → Refused r → Refused (cond b r (Err NotADate))
if_text true r h = h
if_text false r h = inl refl

pub none_wants_memory : NoneWantsMemory
unfolding date_of
none_wants_memory text now =
    if_text (is_utf8 text) _
    (first_read (raw_date text) _ (raw_date-ranged text)
    (first_read (short_date text) _ (short_date-ranged text)
    (first_read (iso8601_date text now) _ (iso8601_date-ranged text now)
    (first_read (word_date text now) _ (word_date-ranged text now)
    (first_read (relative_date text now) _ (relative_date-ranged text now) (rfc2822_date-refused text))))))
