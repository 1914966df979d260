use Rattle.std.proofs.Common.{◌≡◌, ◌∙◌, refl, ℤ, pos, neg_ℤ, arith, w32, w64, to_z, of_z, ℕ, FitsSigned}
use Rattle.jiff_core.specs.Calendar.{IsWithin, IsEpochDay}
use Rattle.jiff_core.proofs.SignedLemmas.{signed_arith}
use Rattle.std.proofs.lemmas.Int.{to_z-of_z}
use Rattle.gix_date.proofs.Months.{months_before-beyond, months_before-shiftable, months_before-unshiftable, months_before-far}
use Rattle.gix_date.proofs.date.months.months_before.Goals as goal

backward_is : (months : ℕ) (k : ℤ) → k ≡ neg_ℤ (pos months) → IsWithin 500_000 k → to_z w32 (of_z w32 k) ≡ neg_ℤ (pos months)
backward_is months k e within =
    let fits : FitsSigned w32 k = omega (arith, signed_arith) in
    to_z-of_z w32 k fits ∙ e

day_is : (z : ℤ) → IsEpochDay z → to_z w64 (of_z w64 z) ≡ z
day_is z h =
    let fits : FitsSigned w64 z = omega (arith, signed_arith) in
    to_z-of_z w64 z fits

pub returns-in_default-clause-value : goal.returns-in_default-clause-value
returns-in_default-clause-value c =
    let day = to_z-of_z w64 c.args.day c.ranges.day in
    let made = rw day at c.in_default.ensures.succeeds in
    months_before-beyond c.args.day c.args.months (λ h. let e = made.1 h in cc)

pub returns-then-months-gt500000-clause-value : goal.returns-then-months-gt500000-clause-value
returns-then-months-gt500000-clause-value c =
    let day = c.in-Ok.ensures.value ∙ to_z-of_z w64 c.args.day c.ranges.day in
    months_before-far c.in-Ok.date c.args.day c.args.months day c.if-months-gt500000.true

pub returns-in-Ok-add_months-clause-value : goal.returns-in-Ok-add_months-clause-value
returns-in-Ok-add_months-clause-value c =
    let day = c.in-Ok.ensures.value ∙ to_z-of_z w64 c.args.day c.ranges.day in
    let made = c.in-Ok-add_months.ensures in
    months_before-shiftable c.in-Ok.date c.args.day c.args.months _ _ day (backward_is c.args.months c.backward.result c.backward.ensures.value c.backward.ensures.bound) (made.succeeds.0 refl) (day_is _ c.epoch_day.ensures.bound ∙ c.epoch_day.ensures.value ∙ made.value)

pub returns-in-Err-clause-value : goal.returns-in-Err-clause-value
returns-in-Err-clause-value c =
    let day = c.in-Ok.ensures.value ∙ to_z-of_z w64 c.args.day c.ranges.day in
    let made = c.in-Err.ensures.succeeds in
    months_before-unshiftable c.in-Ok.date c.args.day c.args.months _ day (backward_is c.args.months c.backward.result c.backward.ensures.value c.backward.ensures.bound) (λ h. let e = made.1 h in cc)

pub returns-in-Ok-add_months-clause-bound : goal.returns-in-Ok-add_months-clause-bound
returns-in-Ok-add_months-clause-bound c = rw (day_is _ c.epoch_day.ensures.bound) c.epoch_day.ensures.bound
