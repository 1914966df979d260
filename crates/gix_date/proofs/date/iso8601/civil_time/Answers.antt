use Rattle.std.proofs.Common.{FitsSigned, w32, w64, arith, rules}
use Rattle.std.proofs.lemmas.Int.{to_z-of_z}
use Rattle.jiff_core.proofs.SignedLemmas.{signed_arith}
use Rattle.gix_date.proofs.Times.{civil_time-at}
use Rattle.gix_date.proofs.date.iso8601.civil_time.Goals as goal

pub returns : goal.returns
returns c =
    let fd : FitsSigned w64 c.in_ok-day.day = omega (arith, signed_arith, c.in_ok-day.ensures.bound) in
    let fs : FitsSigned w64 c.in_ok-second.second = omega (arith, signed_arith, c.in_ok-second.ensures.bound) in
    let fo : FitsSigned w32 c.in_ok-offset.offset = search rules in
    let seconds = simp to_z-of_z at c.timed_at.ensures.seconds in
    let offset = simp to_z-of_z at c.timed_at.ensures.offset in
    civil_time-at c.args.text.now c.args.now c.timed_at.result c.in_ok-day.day c.in_ok-second.second c.in_ok-offset.offset
    c.in_ok-day.ensures.value c.in_ok-second.ensures.value c.in_ok-offset.ensures seconds offset
