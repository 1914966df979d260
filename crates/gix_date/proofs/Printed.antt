-- Times that are printed and read back.
use Rattle.std.proofs.Common.{◌≡◌, ℕ, zero, suc, ◌+◌, ◌-◌, ◌/◌, ◌%◌, ◌^◌, ◌<◌, ◌≤◌, ◌==◌, ◌&&◌, ◌++◌, List, [], ◌∷◌, length, get_or, Bool, true, false, IsSome, None, Some, Ok, ◌*ℤ◌, ◌≤ℤ◌, nat_lt, nat_le, refl, sym, ap, ◌∙◌, arith, rules, ℤ, pos, negsuc, FitsSigned, w64, codes}
use Rattle.std.specs.Char.{is_ascii_digit}
use Rattle.std.specs.List.{list_all}
use Rattle.std.specs.Fmt.{decimal, signed_decimal}
use Rattle.std.specs.Str.{IsAscii, is_utf8}
use Rattle.std.proofs.lemmas.Str.{is_utf8-from_IsUtf8, IsUtf8-from_ascii, IsAscii-append}
use Rattle.std.proofs.lemmas.Str.Ascii.{IsAscii-nil}
use Rattle.std.proofs.lemmas.Str.Parse.{IsNumeralModel, numerals_by_fold, not_in_digits}
use Rattle.std.proofs.lemmas.Fmt.{digits_decimal, digits_value-decimal, decimal_nonempty, IsAscii-signed}
use Rattle.std.proofs.lemmas.Bool.{and_from}
use Rattle.std.proofs.lemmas.Bool.Decides.{nat_tests}
use Rattle.std.specs.Int.{is_in_range}
use Rattle.jiff_core.specs.Calendar.{IsCivilDate, days_in_month, days_from_civil}
use Rattle.jiff_core.proofs.SignedLemmas.{signed_arith}
use Rattle.jiff_core.proofs.CalendarLemmas.{days_in_month_bounds}
use Rattle.jiff_fmt.specs.Text.{pad2, pad4, year_text}
use Rattle.gix_base.specs.declared.date.Time.{Time}
use Rattle.gix_date.specs.Civil.{day_number, day_of}
use Rattle.gix_date.specs.Date.{date_of}
use Rattle.gix_date.specs.DateReading.{Reading}
use Rattle.gix_date.specs.ShortDate.{midnight_of, short_date}
use Rattle.gix_date.proofs.Apart.{raw-short}
use Rattle.gix_date.specs.Numerals.{is_number, number_after, number_of, is_integer, integer_of}
use Rattle.gix_date.specs.Offset.{offset_of, offset_by, offset_seconds}
use Rattle.gix_date.specs.PrintedDate.{DaysReadBack, TimesReadBack, zone_text, raw_text}
use Rattle.gix_date.specs.RawDate.{raw_date, raw_time}
use Rattle.gix_date.specs.Shape.{has_shape}
use Rattle.gix_date.proofs.Times.{time_if-fits}
use Rattle.gix_date.proofs.Readings.{date_of-raw, date_of-short}
use Rattle.std.proofs.Math.Seq.{take-append_seam, drop-append_seam}
use Rattle.std.proofs.lemmas.List.{length-append}

own : IsNumeralModel (λ ds. list_all is_ascii_digit ds ≡ true) number_of
unfolding number_after
own = numerals_by_fold _ (search rules) number_after (search rules)

is_number-decimal : (n : ℕ) → n < 2 ^ 64 → is_number (decimal n) ≡ true
unfolding is_number
is_number-decimal n h =
    let some = decimal_nonempty n h in
    and_from (nat_lt 0 (length (decimal n))) (list_all is_ascii_digit (decimal n)) (grind (arith, nat_tests)) (digits_decimal own n h)

number_of-decimal : (n : ℕ) → n < 2 ^ 64 → number_of (decimal n) ≡ n
number_of-decimal n h = digits_value-decimal own n h

no_minus : (n : ℕ) → n < 2 ^ 64 → (get_or (decimal n) 0 0 == 45) ≡ false
no_minus n h =
    let other = not_in_digits own (decimal n) 45 (digits_decimal own n h) (λ r. omega (arith, r)) 0 (decimal_nonempty n h) in
    grind (arith, nat_tests)

-- the seconds
is_integer-signed : (z : ℤ) → FitsSigned w64 z → (is_integer (signed_decimal z) ≡ true) × (integer_of (signed_decimal z) ≡ z)
is_integer-signed (pos n) h =
    let small : n < 2 ^ 64 = omega (arith, h.sfits) in
    let no = no_minus n small in
    (rw no (is_number-decimal n small), rw no (ap pos (number_of-decimal n small)))
is_integer-signed (negsuc n) h =
    let small : suc n < 2 ^ 64 = omega (arith, h.sfits) in
    (is_number-decimal (suc n) small, rw (number_of-decimal (suc n) small) refl)

-- the offset
digit_is : (d : ℕ) → d ≤ 9 → is_ascii_digit (48 + d) ≡ true
digit_is d h = grind (arith, nat_tests)

high : (n : ℕ) → n < 100 → n / 10 ≤ 9
high n h = omega arith

low : (n : ℕ) → n % 10 ≤ 9
low n = omega arith

number_of-pad2 : (n : ℕ) → number_of (pad2 n) ≡ n
unfolding number_after
number_of-pad2 n = omega arith

has_shape-zone : (behind : Bool) (h m : ℕ) → h ≤ 23 → m ≤ 59 → has_shape (codes " +0000") (32 ∷ zone_text behind h m) ≡ true
unfolding has_shape
has_shape-zone true h m a b =
    rw (digit_is (h / 10) (high h (omega arith)), digit_is (h % 10) (low h), digit_is (m / 10) (high m (omega arith)), digit_is (m % 10) (low m)) refl
has_shape-zone false h m a b =
    rw (digit_is (h / 10) (high h (omega arith)), digit_is (h % 10) (low h), digit_is (m / 10) (high m (omega arith)), digit_is (m % 10) (low m)) refl

in_zone : (h m : ℕ) → h ≤ 23 → m ≤ 59 → (nat_le h 23 && nat_le m 59) ≡ true
in_zone h m a b = and_from (nat_le h 23) (nat_le m 59) (grind (arith, nat_tests)) (grind (arith, nat_tests))

offset_of-zone : (behind : Bool) (h m : ℕ) → h ≤ 23 → m ≤ 59 → offset_of (zone_text behind h m) ≡ Ok (offset_seconds behind h m)
unfolding offset_of offset_by
offset_of-zone true h m a b = rw (number_of-pad2 h, number_of-pad2 m, in_zone h m a b) refl
offset_of-zone false h m a b = rw (number_of-pad2 h, number_of-pad2 m, in_zone h m a b) refl

-- the text as a whole
raw_time-printed : (z : ℤ) (behind : Bool) (h m : ℕ) → FitsSigned w64 z → h ≤ 23 → m ≤ 59 → raw_time (signed_decimal z) (zone_text behind h m) ≡ Ok (record { seconds = z; offset = offset_seconds behind h m })
unfolding raw_time
raw_time-printed z behind h m fit a b =
    rw (offset_of-zone behind h m a b, (is_integer-signed z fit).1) (sym (time_if-fits (Some z) z (offset_seconds behind h m) (fit, refl)))

raw_date-printed : (z : ℤ) (behind : Bool) (h m : ℕ) → FitsSigned w64 z → h ≤ 23 → m ≤ 59 → Some (raw_time (signed_decimal z) (zone_text behind h m)) ≡ raw_date (raw_text z behind h m)
unfolding raw_date
raw_date-printed z behind h m fit a b =
    let front = signed_decimal z in
    let back : List ℕ = 32 ∷ zone_text behind h m in
    let len : length (front ++ back) - 6 ≡ length front = omega (arith, length-append front back) in
    rw (len, take-append_seam front back, drop-append_seam front back, (is_integer-signed z fit).0, has_shape-zone behind h m a b) refl

IsAscii-cons : (b : ℕ) (bs : List ℕ) → b < 128 → IsAscii bs → IsAscii (b ∷ bs)
IsAscii-cons b bs h k zero = h
IsAscii-cons b bs h k (suc i) = k i

IsAscii-pad2 : (n : ℕ) (bs : List ℕ) → n ≤ 99 → IsAscii bs → IsAscii ((48 + n / 10) ∷ ((48 + n % 10) ∷ bs))
IsAscii-pad2 n bs h k =
    IsAscii-cons (48 + n / 10) ((48 + n % 10) ∷ bs) (omega arith) (IsAscii-cons (48 + n % 10) bs (omega arith) k)

IsAscii-zone : (behind : Bool) (h m : ℕ) → h ≤ 23 → m ≤ 59 → IsAscii (32 ∷ zone_text behind h m)
IsAscii-zone true h m a b =
    IsAscii-cons 32 (45 ∷ (pad2 h ++ pad2 m)) (omega arith) (IsAscii-cons 45 (pad2 h ++ pad2 m) (omega arith) (IsAscii-pad2 h (pad2 m) (omega arith) (IsAscii-pad2 m [] (omega arith) IsAscii-nil)))
IsAscii-zone false h m a b =
    IsAscii-cons 32 (43 ∷ (pad2 h ++ pad2 m)) (omega arith) (IsAscii-cons 43 (pad2 h ++ pad2 m) (omega arith) (IsAscii-pad2 h (pad2 m) (omega arith) (IsAscii-pad2 m [] (omega arith) IsAscii-nil)))

is_utf8-printed : (z : ℤ) (behind : Bool) (h m : ℕ) → FitsSigned w64 z → h ≤ 23 → m ≤ 59 → is_utf8 (raw_text z behind h m) ≡ true
is_utf8-printed z behind h m fit a b =
    is_utf8-from_IsUtf8 (raw_text z behind h m)
    (IsUtf8-from_ascii (raw_text z behind h m) (IsAscii-append (signed_decimal z) (32 ∷ zone_text behind h m) (IsAscii-signed z fit.sfits) (IsAscii-zone behind h m a b)))

pub times_read_back : TimesReadBack
times_read_back z behind h m now fit a b =
    sym (sym (raw_time-printed z behind h m fit a b) ∙ date_of-raw (raw_text z behind h m) now _ (is_utf8-printed z behind h m fit a b) (raw_date-printed z behind h m fit a b))

-- a day as a text
number_of-pad4 : (n : ℕ) → number_of (pad4 n) ≡ n
unfolding number_after
number_of-pad4 n = omega arith

abbrev day_text : (year month day : ℕ) → List ℕ
day_text year month day = pad4 year ++ 45 ∷ [] ++ pad2 month ++ 45 ∷ [] ++ pad2 day

has_shape-day : (y m d : ℕ) → y ≤ 9999 → m ≤ 12 → d ≤ 31 → has_shape (codes "0000-00-00") (day_text y m d) ≡ true
unfolding has_shape
has_shape-day y m d a b c =
    rw (digit_is (y / 100 / 10) (high (y / 100) (omega arith)), digit_is (y / 100 % 10) (low (y / 100)), digit_is (y % 100 / 10) (high (y % 100) (omega arith)), digit_is (y % 100 % 10) (low (y % 100))) (
    rw (digit_is (m / 10) (high m (omega arith)), digit_is (m % 10) (low m), digit_is (d / 10) (high d (omega arith)), digit_is (d % 10) (low d)) refl)

in_range : (low high n : ℕ) → low ≤ n → n ≤ high → is_in_range low high n ≡ true
in_range low high n h k = grind (arith, nat_tests)

in_calendar : (y m d : ℕ) → IsCivilDate (pos y) m d → (nat_le y 9999 && is_in_range 1 12 m && is_in_range 1 (days_in_month (pos y) m) d) ≡ true
in_calendar y m d h =
    let small : y ≤ 9999 = omega (arith, signed_arith, h.0) in
    let month = h.1 in
    let day = h.2 in
    and_from (nat_le y 9999 && is_in_range 1 12 m) (is_in_range 1 (days_in_month (pos y) m) d)
    (and_from (nat_le y 9999) (is_in_range 1 12 m) (grind (arith, nat_tests)) (in_range 1 12 m month.0 month.1))
    (in_range 1 (days_in_month (pos y) m) d day.0 day.1)

day_of-day_text : (y m d : ℕ) → IsCivilDate (pos y) m d → day_of (day_text y m d) ≡ Ok (days_from_civil (pos y) m d)
unfolding day_of day_number
day_of-day_text y m d h = rw (number_of-pad4 y, number_of-pad2 m, number_of-pad2 d, in_calendar y m d h) refl

IsAscii-day_text : (y m d : ℕ) → y ≤ 9999 → m ≤ 12 → d ≤ 31 → IsAscii (day_text y m d)
IsAscii-day_text y m d a b c =
    IsAscii-pad2 (y / 100) (pad2 (y % 100) ++ (45 ∷ (pad2 m ++ (45 ∷ pad2 d)))) (omega arith) (
    IsAscii-pad2 (y % 100) (45 ∷ (pad2 m ++ (45 ∷ pad2 d))) (omega arith) (
    IsAscii-cons 45 (pad2 m ++ (45 ∷ pad2 d)) (omega arith) (
    IsAscii-pad2 m (45 ∷ pad2 d) (omega arith) (
    IsAscii-cons 45 (pad2 d) (omega arith) (IsAscii-pad2 d [] (omega arith) IsAscii-nil)))))

midnight_of-day_text : (y m d : ℕ) → IsCivilDate (pos y) m d → midnight_of (day_text y m d) ≡ Ok (record { seconds = days_from_civil (pos y) m d *ℤ pos 86400; offset = pos 0 })
unfolding midnight_of
midnight_of-day_text y m d h = rw (day_of-day_text y m d h) refl

short_date-day_text : (y m d : ℕ) → y ≤ 9999 → m ≤ 12 → d ≤ 31 → short_date (day_text y m d) ≡ Some (midnight_of (day_text y m d))
unfolding short_date
short_date-day_text y m d a b c = rw (has_shape-day y m d a b c) refl

not_raw : (text : List ℕ) → IsSome (short_date text) → None ≡ raw_date text
not_raw text h =
    let step : (r : Reading) → (IsSome r → IsSome (short_date text) → ⊥) → None ≡ r
    = λ r. elim r as (λ r. (IsSome r → IsSome (short_date text) → ⊥) → None ≡ r) [ None ↦ λ apart. refl | Some x ↦ λ apart. absurd (apart refl h) ] in
    step (raw_date text) (raw-short text)

day_reads_back : (year : ℤ) (m d : ℕ) (now : Time) → pos 0 ≤ℤ year → IsCivilDate year m d → date_of (year_text year ++ 45 ∷ [] ++ pad2 m ++ 45 ∷ [] ++ pad2 d) now ≡ Ok (record { seconds = days_from_civil year m d *ℤ pos 86400; offset = pos 0 })
day_reads_back (pos y) m d now h civil =
    let text = day_text y m d in
    let small : y ≤ 9999 = omega (arith, signed_arith, civil.0) in
    let month : m ≤ 12 = omega (arith, civil.1) in
    let long = days_in_month_bounds (pos y) m in
    let on : d ≤ 31 = omega (arith, civil.2) in
    let utf8 = is_utf8-from_IsUtf8 text (IsUtf8-from_ascii text (IsAscii-day_text y m d small month on)) in
    let shape = short_date-day_text y m d small month on in
    let some : IsSome (short_date text) = rw shape refl in
    sym (date_of-short text now (midnight_of text) utf8 (not_raw text some) (sym shape)) ∙ midnight_of-day_text y m d civil
day_reads_back (negsuc y) m d now h civil = absurd (omega (arith, signed_arith))

pub days_read_back : DaysReadBack
days_read_back date now h = day_reads_back date.year date.month date.day now h (date.year_in, date.month_in, date.day_in)
