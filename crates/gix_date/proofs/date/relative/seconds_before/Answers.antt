use Rattle.std.proofs.Common.{◌∙◌, rules, FitsSigned, w32, w64, ap, arith, pos}
use Rattle.std.specs.Int.{int_div_euclid, int_rem_euclid}
use Rattle.jiff_core.proofs.SignedLemmas.{signed_arith}
use Rattle.std.proofs.lemmas.Int.{to_z-of_z}
use Rattle.gix_date.proofs.Times.{seconds_before-day, seconds_before-beyond}
use Rattle.gix_date.proofs.date.relative.seconds_before.Goals as goal

pub returns-in_default : goal.returns-in_default
returns-in_default c =
    let fs : FitsSigned w64 c.args.now.seconds = search rules in
    let fo : FitsSigned w32 c.args.now.offset = search rules in
    let ff : FitsSigned w64 c.from.result = search rules in
    let from = c.from.ensures ∙ to_z-of_z w32 c.args.now.offset fo in
    let beyond = rw (to_z-of_z w64 c.args.now.seconds fs, to_z-of_z w64 c.from.result ff, from) at c.in_default.ensures in
    seconds_before-beyond c.args.now c.args.months c.if-months-eq0.false beyond

pub returns : goal.returns
returns c =
    let fs : FitsSigned w64 c.args.now.seconds = search rules in
    let fo : FitsSigned w32 c.args.now.offset = search rules in
    let ff : FitsSigned w64 c.from.result = search rules in
    let from = c.from.ensures ∙ to_z-of_z w32 c.args.now.offset fo in
    let local = rw (to_z-of_z w64 c.args.now.seconds fs, to_z-of_z w64 c.from.result ff, from) at c.in-Some.ensures in
    let fl : FitsSigned w64 c.in-Some.local = search rules in
    let fq : FitsSigned w64 c.div_euclid.result = search rules in
    let fr : FitsSigned w64 c.rem_euclid.result = search rules in
    let fd : FitsSigned w64 c.in_ok-day.day = omega (arith, signed_arith, c.in_ok-day.ensures.bound) in
    let fz : FitsSigned w64 c.seconds_at.result = search rules in
    let at = to_z-of_z w64 c.in-Some.local fl in
    let quotient = c.div_euclid.ensures ∙ ap (λ z. int_div_euclid z (pos 86400)) at in
    let rest = c.rem_euclid.ensures.value ∙ ap (λ z. int_rem_euclid z (pos 86400)) at in
    let reached = rw (to_z-of_z w64 c.div_euclid.result fq, quotient) at c.in_ok-day.ensures.value in
    let sum = rw (to_z-of_z w64 c.in_ok-day.day fd, to_z-of_z w64 c.rem_euclid.result fr, rest, to_z-of_z w32 c.args.now.offset fo) at c.seconds_at.ensures in
    seconds_before-day c.args.now c.args.months c.in-Some.local c.in_ok-day.day _ c.if-months-eq0.false local.1 reached
    (to_z-of_z w64 c.seconds_at.result fz ∙ sum)
