-- Times that 64 bits hold, and others.
use Rattle.std.proofs.Common.{◌≡◌, ℕ, ◌^◌, ◌-◌, Option, Some, None, SomeIff, Ok, Err, refl, ap, ◌∙◌, arith, ℤ, pos, neg_ℤ, ◌+ℤ◌, ◌-ℤ◌, ◌*ℤ◌, ◌≤ℤ◌, FitsSigned, w64, List, length, take, drop, false, ◌==◌}
use Rattle.std.proofs.Math.Seq.{take-length}
use Rattle.std.proofs.lemmas.Bool.Decides.{nat_tests}
use Rattle.std.proofs.lemmas.List.{length-drop}
use Rattle.std.specs.Int.{int_div_euclid, int_rem_euclid}
use Rattle.jiff_core.specs.Calendar.{IsEpochDay}
use Rattle.gix_base.specs.declared.date.Time.{Time}
use Rattle.jiff_core.proofs.SignedLemmas.{signed_arith}
use Rattle.gix_date.specs.declared.date.error.DateError.{DateError}
use Rattle.gix_date.specs.declared.date.error.DateError.TheVariants.{OutOfRange}
use Rattle.gix_date.specs.Civil.{day_of, clock_of}
use Rattle.gix_date.specs.DateReading.{time_at, time_if}
use Rattle.gix_date.specs.Iso8601Date.{zone_of, civil_time}
use Rattle.gix_date.specs.Months.{months_before}
use Rattle.gix_date.specs.RelativeDate.{seconds_before}
use Rattle.gix_date.proofs.Months.{months_before-beyond}
use Rattle.gix_date.proofs.Holds.{otherwise, where_true, between, is_between}

fits_between : (z : ℤ) → neg_ℤ (pos (2 ^ 63)) ≤ℤ z → z ≤ℤ pos (2 ^ 63 - 1) → FitsSigned w64 z
fits_between z l r = omega (arith, signed_arith)

between_fits : (z : ℤ) → FitsSigned w64 z → (neg_ℤ (pos (2 ^ 63)) ≤ℤ z) × (z ≤ℤ pos (2 ^ 63 - 1))
between_fits z h = omega (arith, signed_arith)

-- a time of seconds that are there where 64 bits hold them
pub time_if-fits : (r : Option ℤ) (z offset : ℤ) → SomeIff r (FitsSigned w64 z) z → time_if r offset ≡ time_at z offset
time_if-fits None z offset h =
    otherwise _ _ _ (λ e. let b = between (neg_ℤ (pos (2 ^ 63))) (pos (2 ^ 63 - 1)) z e in h (fits_between z b.0 b.1))
time_if-fits (Some s) z offset h =
    let b = between_fits z h.0 in
    rw h.1 (where_true _ _ _ (is_between (neg_ℤ (pos (2 ^ 63))) (pos (2 ^ 63 - 1)) z b.0 b.1))

none_if : (n : ℕ) → (n ≡ 0 → ⊥) → (n == 0) ≡ false
none_if n h = grind (arith, nat_tests)

take_rest : (n : ℕ) (text : List ℕ) → take (length text - n) (drop n text) ≡ drop n text
take_rest n text = rw (← length-drop n text) (take-length (drop n text))

-- the seconds so many months before a moment, as they are reached
pub seconds_before-day : (now : Time) (months : ℕ) (local day z : ℤ) → (months ≡ 0 → ⊥) → local ≡ now.seconds +ℤ now.offset → Ok day ≡ months_before (int_div_euclid local (pos 86400)) months → z ≡ day *ℤ pos 86400 +ℤ int_rem_euclid local (pos 86400) -ℤ now.offset → Ok z ≡ seconds_before now months
unfolding seconds_before
seconds_before-day now months local day z some is reached sum =
    let reached' = rw is at reached in
    let sum' = rw is at sum in
    let no = none_if months some in
    rw (no, ← reached', sum') refl

pub seconds_before-refused : (now : Time) (months : ℕ) (local : ℤ) (e : DateError) → (months ≡ 0 → ⊥) → local ≡ now.seconds +ℤ now.offset → Err e ≡ months_before (int_div_euclid local (pos 86400)) months → Err e ≡ seconds_before now months
unfolding seconds_before
seconds_before-refused now months local e some is reached =
    let reached' = rw is at reached in
    let no = none_if months some in
    rw (no, ← reached') refl

-- a clock that 64 bits do not hold shows a day of no year
days_fit : (z : ℤ) → IsEpochDay (int_div_euclid z (pos 86400)) → FitsSigned w64 z
days_fit z h = omega (arith, signed_arith)

pub seconds_before-beyond : (now : Time) (months : ℕ) → (months ≡ 0 → ⊥) → (FitsSigned w64 (now.seconds +ℤ now.offset) → ⊥) → Err OutOfRange ≡ seconds_before now months
seconds_before-beyond now months some h =
    seconds_before-refused now months (now.seconds +ℤ now.offset) OutOfRange some refl
    (months_before-beyond (int_div_euclid (now.seconds +ℤ now.offset) (pos 86400)) months (λ day. h (days_fit (now.seconds +ℤ now.offset) day)))

abbrev time : ℤ → ℤ → Time
time seconds offset = record { seconds = seconds; offset = offset }

-- the time of a day and a clock, as it is reached
pub civil_time-at : (text : List ℕ) (now t : Time) (day second offset : ℤ) → Ok day ≡ day_of text → Ok second ≡ clock_of (take (length text - 11) (drop 11 text)) → Ok offset ≡ zone_of now (take (length text - 19) (drop 19 text)) → t.seconds ≡ day *ℤ pos 86400 +ℤ second -ℤ offset → t.offset ≡ offset → Ok t ≡ civil_time text now
unfolding civil_time
civil_time-at text now t day second offset d s o sum at =
    let s' = rw (take_rest 11 text) at s in
    let o' = rw (take_rest 19 text) at o in
    let made = ap (λ z. time z t.offset) sum ∙ ap (λ z. time (day *ℤ pos 86400 +ℤ second -ℤ offset) z) at in
    rw (← d, ← s', ← o') (ap (λ t. Ok t) made)
